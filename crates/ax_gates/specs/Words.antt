-- Words: lists of literals, the lowest bit first.
use Rattle.std.specs.Prelude.{◌≡◌, ℕ, ◌+◌, ◌*◌, ◌≤◌, Bool, true, false, List, [], ◌∷◌}
use Rattle.ax_proof.specs.Literal.{Literal, literal}
use Rattle.ax_proof.specs.Assignment.{lit_value, satisfies}
use Rattle.ax_gates.specs.Gates.{Gate, both, either, differ, choose, next}

-- the literals 1 and -1: blocks that name them mean what they say where variable 1 is true
abbrev pub lit_true : Literal
lit_true = literal 1 true

abbrev pub lit_false : Literal
lit_false = literal 1 false

abbrev pub digit : Bool → ℕ
digit true = 1
digit false = 0

-- the number whose bits the literals are
abbrev pub word_value : (ℕ → Bool) → List Literal → ℕ
word_value v [] = 0
word_value v (l ∷ ls) = digit (lit_value v l) + 2 * word_value v ls

-- the literals of the variables after n, as many as the list has
abbrev pub fresh : ℕ → List Literal → List Literal
fresh n [] = []
fresh n (x ∷ xs) = next n ∷ fresh (n + 1) xs

-- a gate for each bit of two words
abbrev pub pairwise : (Literal → Literal → Gate) → List Literal → List Literal → List Gate
pairwise f [] bs = []
pairwise f (a ∷ rest) [] = []
pairwise f (a ∷ rest) (b ∷ bs) = f a b ∷ pairwise f rest bs

abbrev pub and_gates : List Literal → List Literal → List Gate
and_gates a b = pairwise both a b

abbrev pub or_gates : List Literal → List Literal → List Gate
or_gates a b = pairwise either a b

abbrev pub xor_gates : List Literal → List Literal → List Gate
xor_gates a b = pairwise differ a b

abbrev pub pick_gates : Literal → List Literal → List Literal → List Gate
pick_gates f a b = pairwise (choose f) a b

-- the assignments agree on the variables up to n
abbrev pub Agree : ℕ → (ℕ → Bool) → (ℕ → Bool) → Type 0
Agree n v w = (x : ℕ) → x ≤ n → v x ≡ w x

-- each assignment of the variables up to n is that of one that satisfies the clauses
abbrev pub Extends : ℕ → List (List Literal) → Type 0
Extends n clauses = (v : ℕ → Bool) → (w : ℕ → Bool) × Agree n v w × (satisfies w clauses ≡ true)
