-- Adders, and comparisons of words.
use Rattle.std.specs.Prelude.{◌≡◌, ℕ, ◌+◌, ◌*◌, ◌-◌, Bool, true, false, List, [], ◌∷◌, ◌++◌, length, cond, ℤ}
use Rattle.std.specs.Int.{w32, cast_signed}
use Rattle.ax_proof.specs.Literal.{Literal, literal, negation}
use Rattle.ax_gates.specs.Gates.{Gate, parity, majority, none, next}
use Rattle.ax_gates.specs.Words.{word_value, fresh, xor_gates, lit_true}

-- a sum with its carry out: for each bit its variable, and then the carry's
abbrev pub carry_gates : ℕ → List Literal → List Literal → Literal → List Gate
carry_gates n [] bs c = []
carry_gates n (a ∷ rest) [] c = []
carry_gates n (a ∷ rest) (b ∷ bs) c = parity a b c ∷ majority a b c ∷ carry_gates (n + 1 + 1) rest bs (next (n + 1))

-- its bits, and then the last carry
abbrev pub carry_outs : ℕ → List Literal → Literal → List Literal
carry_outs n [] c = c ∷ []
carry_outs n (a ∷ rest) c = next n ∷ carry_outs (n + 1 + 1) rest (next (n + 1))

-- the same without a carry out: the last bit has no carry's variable
abbrev pub wrap_gates : ℕ → List Literal → List Literal → Literal → List Gate
wrap_gates n [] bs c = []
wrap_gates n (a ∷ []) [] c = []
wrap_gates n (a ∷ x ∷ rest) [] c = []
wrap_gates n (a ∷ []) (b ∷ bs) c = parity a b c ∷ []
wrap_gates n (a ∷ x ∷ rest) (b ∷ bs) c = parity a b c ∷ majority a b c ∷ wrap_gates (n + 1 + 1) (x ∷ rest) bs (next (n + 1))

abbrev pub wrap_outs : ℕ → List Literal → List Literal
wrap_outs n [] = []
wrap_outs n (a ∷ rest) = next n ∷ wrap_outs (n + 1 + 1) rest

-- a sum, with a carry out or without
abbrev pub sum_gates : Bool → ℕ → List Literal → List Literal → Literal → List Gate
sum_gates true = carry_gates
sum_gates false = wrap_gates

abbrev pub sum_outs : Bool → ℕ → List Literal → Literal → List Literal
sum_outs true n a c = carry_outs n a c
sum_outs false n a c = wrap_outs n a

-- how many variables it has
abbrev pub sum_vars : Bool → ℕ → ℕ
sum_vars true bits = 2 * bits
sum_vars false bits = 2 * bits - 1

-- equality: a variable for each two bits that differ, and one for none of them
abbrev pub equal_gates : ℕ → List Literal → List Literal → List Gate
equal_gates n a b = xor_gates a b ++ none (fresh n a) ∷ []

-- Order with sign: the carries of a - b with a 1 below, where the top bits, which weigh -2^31, change sides. The last carry
-- says that b is not above a.
abbrev pub less_gates : ℕ → List Literal → List Literal → Literal → List Gate
less_gates n [] b c = []
less_gates n (x ∷ []) [] c = []
less_gates n (x ∷ u ∷ a) [] c = []
less_gates n (x ∷ []) (y ∷ b) c = majority (negation x) y c ∷ []
less_gates n (x ∷ u ∷ a) (y ∷ b) c = majority x (negation y) c ∷ less_gates (n + 1) (u ∷ a) b (next n)

-- a word of 32 bits as a number in two's complement
abbrev pub signed_value : (ℕ → Bool) → List Literal → ℤ
signed_value v a = cast_signed w32 (word_value v a)
