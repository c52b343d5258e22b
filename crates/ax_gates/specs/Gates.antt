-- Gates: each makes one literal of others, by clauses.
use Rattle.std.specs.Prelude.{ℕ, ◌+◌, Bool, true, false, not, ◌&&◌, ◌||◌, List, [], ◌∷◌, ◌++◌, option_to_list, cond}
use Rattle.ax_proof.specs.Literal.{Literal, literal, negation}
use Rattle.ax_proof.specs.Clause.{clause_of}
use Rattle.ax_proof.specs.Assignment.{lit_value, clause_true}

abbrev pub xor_of : Bool → Bool → Bool
xor_of true b = not b
xor_of false b = b

-- what two of three are
abbrev pub majority_of : Bool → Bool → Bool → Bool
majority_of true b c = b || c
majority_of false b c = b && c

-- what a literal z is made to be
pub data Gate : Type 0 where
  -- anything: no clause binds z
  free : Gate
  -- true
  yes : Gate
  -- a and b
  both : Literal → Literal → Gate
  -- a or b
  either : Literal → Literal → Gate
  -- a or b, and not both
  differ : Literal → Literal → Gate
  -- a where the first literal holds, else b
  choose : Literal → Literal → Literal → Gate
  -- whether an odd number of three holds
  parity : Literal → Literal → Literal → Gate
  -- what two of three are
  majority : Literal → Literal → Literal → Gate
  -- whether none holds
  none : List Literal → Gate

unfoldable pub and_clauses : Literal → Literal → Literal → List (List Literal)
and_clauses z a b = (z ∷ negation a ∷ negation b ∷ []) ∷ (negation z ∷ a ∷ []) ∷ (negation z ∷ b ∷ []) ∷ []

unfoldable pub xor_clauses : Literal → Literal → Literal → List (List Literal)
xor_clauses z a b =
    (negation z ∷ a ∷ b ∷ [])
    ∷ (negation z ∷ negation a ∷ negation b ∷ [])
    ∷ (z ∷ negation a ∷ b ∷ [])
    ∷ (z ∷ a ∷ negation b ∷ [])
    ∷ []

unfoldable pub mux_clauses : Literal → Literal → Literal → Literal → List (List Literal)
mux_clauses z f a b =
    (negation f ∷ negation a ∷ z ∷ [])
    ∷ (negation f ∷ a ∷ negation z ∷ [])
    ∷ (f ∷ negation b ∷ z ∷ [])
    ∷ (f ∷ b ∷ negation z ∷ [])
    ∷ []

unfoldable pub parity_clauses : Literal → Literal → Literal → Literal → List (List Literal)
parity_clauses s a b c =
    (a ∷ b ∷ c ∷ negation s ∷ [])
    ∷ (a ∷ b ∷ negation c ∷ s ∷ [])
    ∷ (a ∷ negation b ∷ c ∷ s ∷ [])
    ∷ (a ∷ negation b ∷ negation c ∷ negation s ∷ [])
    ∷ (negation a ∷ b ∷ c ∷ s ∷ [])
    ∷ (negation a ∷ b ∷ negation c ∷ negation s ∷ [])
    ∷ (negation a ∷ negation b ∷ c ∷ negation s ∷ [])
    ∷ (negation a ∷ negation b ∷ negation c ∷ s ∷ [])
    ∷ []

unfoldable pub maj_clauses : Literal → Literal → Literal → Literal → List (List Literal)
maj_clauses z a b c =
    (negation a ∷ negation b ∷ z ∷ [])
    ∷ (negation a ∷ negation c ∷ z ∷ [])
    ∷ (negation b ∷ negation c ∷ z ∷ [])
    ∷ (a ∷ b ∷ negation z ∷ [])
    ∷ (a ∷ c ∷ negation z ∷ [])
    ∷ (b ∷ c ∷ negation z ∷ [])
    ∷ []

-- (-z -x) for each x
abbrev pub each_not : Literal → List Literal → List (List Literal)
each_not z [] = []
each_not z (x ∷ xs) = (negation z ∷ negation x ∷ []) ∷ each_not z xs

unfoldable pub none_clauses : Literal → List Literal → List (List Literal)
none_clauses z xs = (z ∷ xs) ∷ each_not z xs

-- the literals of each clause of a gate, in order
abbrev pub gate_clauses : Literal → Gate → List (List Literal)
gate_clauses z free = []
gate_clauses z yes = (z ∷ []) ∷ []
gate_clauses z (both a b) = and_clauses z a b
gate_clauses z (either a b) = and_clauses (negation z) (negation a) (negation b)
gate_clauses z (differ a b) = xor_clauses z a b
gate_clauses z (choose f a b) = mux_clauses z f a b
gate_clauses z (parity a b c) = parity_clauses z a b c
gate_clauses z (majority a b c) = maj_clauses z a b c
gate_clauses z (none xs) = none_clauses z xs

-- what the gate makes of z
abbrev pub gate_value : (ℕ → Bool) → Literal → Gate → Bool
gate_value v z free = lit_value v z
gate_value v z yes = true
gate_value v z (both a b) = lit_value v a && lit_value v b
gate_value v z (either a b) = lit_value v a || lit_value v b
gate_value v z (differ a b) = xor_of (lit_value v a) (lit_value v b)
gate_value v z (choose f a b) = cond (lit_value v f) (lit_value v a) (lit_value v b)
gate_value v z (parity a b c) = xor_of (lit_value v a) (xor_of (lit_value v b) (lit_value v c))
gate_value v z (majority a b c) = majority_of (lit_value v a) (lit_value v b) (lit_value v c)
gate_value v z (none xs) = not (clause_true v xs)

-- the clause of these literals, or no clause where a literal and its negation both stand
unfoldable pub as_clause : List Literal → List (List Literal)
as_clause ls = option_to_list (clause_of ls)

-- the same of each list in turn
abbrev pub as_clauses : List (List Literal) → List (List Literal)
as_clauses [] = []
as_clauses (ls ∷ rest) = as_clause ls ++ as_clauses rest

-- the clauses that make z what the gate says
unfoldable pub block : Literal → Gate → List (List Literal)
block z g = as_clauses (gate_clauses z g)

-- the clauses of a sum of three bits: s is its low bit and k the carry
abbrev pub add1_block : Literal → Literal → Literal → Literal → Literal → List (List Literal)
add1_block s k a b c = block s (parity a b c) ++ block k (majority a b c)

-- the literal of the variable after n
abbrev pub next : ℕ → Literal
next n = literal (n + 1) true

-- the clauses of gates, of which each makes the next variable, from the one after n on
abbrev pub blocks : ℕ → List Gate → List (List Literal)
blocks n [] = []
blocks n (g ∷ gs) = block (next n) g ++ blocks (n + 1) gs
