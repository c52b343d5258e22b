-- At most so many of some literals are true: a counter in columns. The i-th variable of column j is made true where at
-- least j of the first i inputs are.
use Rattle.std.specs.Prelude.{◌≡◌, ℕ, zero, suc, ◌+◌, ◌*◌, Bool, true, false, List, [], ◌∷◌, ◌++◌, length, nat_lt, if◌then◌else◌}
use Rattle.ax_proof.specs.Literal.{Literal, literal, negation}
use Rattle.ax_proof.specs.Assignment.{lit_value, satisfies}
use Rattle.ax_gates.specs.Words.{digit, fresh, Agree}

-- how many of the literals are true
abbrev pub count_true : (ℕ → Bool) → List Literal → ℕ
count_true v [] = 0
count_true v (x ∷ xs) = digit (lit_value v x) + count_true v xs

-- The first column after the place of s. At each place: it is true where the input is, and where the place before it is.
abbrev pub first_steps : Literal → List Literal → List Literal → List (List Literal)
first_steps s [] column = []
first_steps s (x ∷ xs) [] = []
first_steps s (x ∷ xs) (z ∷ column) = (negation x ∷ z ∷ []) ∷ (negation s ∷ z ∷ []) ∷ first_steps z xs column

abbrev pub first_column : List Literal → List Literal → List (List Literal)
first_column [] column = []
first_column (x ∷ xs) [] = []
first_column (x ∷ xs) (s ∷ column) = (negation x ∷ s ∷ []) ∷ first_steps s xs column

-- A place z of a later column: it is true where the place s before it is, and where the input x is and the place p, which is
-- beside s in the column before.
abbrev pub later_step : Literal → Literal → Literal → Literal → List (List Literal)
later_step s p x z = (negation s ∷ z ∷ []) ∷ (negation x ∷ negation p ∷ z ∷ []) ∷ []

-- a later column after the place of s, where p is beside s in the column before
abbrev pub later_steps : Literal → Literal → List Literal → List Literal → List Literal → List (List Literal)
later_steps s p [] before column = []
later_steps s p (x ∷ xs) [] column = []
later_steps s p (x ∷ xs) (q ∷ before) [] = []
later_steps s p (x ∷ xs) (q ∷ before) (z ∷ column) =
    later_step s p x z ++ later_steps z q xs before column

abbrev pub later_column : List Literal → List Literal → List Literal → List (List Literal)
later_column [] before column = []
later_column (x ∷ xs) [] column = []
later_column (x ∷ xs) (p ∷ before) [] = []
later_column (x ∷ xs) (p ∷ before) (s ∷ column) = later_steps s p xs before column

-- so many more columns behind the column before, with the variables after n
abbrev pub later_columns : ℕ → List Literal → ℕ → List Literal → List (List Literal)
later_columns n xs zero before = []
later_columns n xs (suc k) before = later_column xs before (fresh n xs) ++ later_columns (n + length xs) xs k (fresh n xs)

-- the columns from 1 to k + 1, with the variables after n
abbrev pub columns : ℕ → List Literal → ℕ → List (List Literal)
columns n xs k = first_column xs (fresh n xs) ++ later_columns (n + length xs) xs k (fresh n xs)

-- how many variables a counter up to k of so many inputs has: none where it can't be exceeded
abbrev pub counter_vars : ℕ → ℕ → ℕ
counter_vars inputs k = if nat_lt k inputs then inputs * (k + 1) else 0

-- at most k of xs are true: the columns, of which the last variable is false
abbrev pub counter : ℕ → List Literal → ℕ → List (List Literal)
counter n xs k =
    if nat_lt k (length xs) then columns n xs k ++ (literal (n + length xs * (k + 1)) false ∷ []) ∷ [] else []

-- the assignment agrees, on the variables up to n, with one that satisfies the clauses
abbrev pub IsExtended : ℕ → (ℕ → Bool) → List (List Literal) → Type 0
IsExtended n v clauses = (w : ℕ → Bool) × Agree n v w × (satisfies w clauses ≡ true)
