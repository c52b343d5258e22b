-- Assignments of truth values to variables, and what satisfies clauses.
use Rattle.std.specs.Prelude.{◌≡◌, ℕ, ◌-◌, Bool, true, false, not, ◌&&◌, ◌||◌, Option, Some, None, List, [], ◌∷◌, slice_index_or}
use Rattle.ax_proof.specs.Literal.{Literal}

abbrev pub signed : Bool → Bool → Bool
signed true b = b
signed false b = not b

-- the value of a literal, where each variable has a truth value
abbrev pub lit_value : (ℕ → Bool) → Literal → Bool
lit_value v l = signed l.positive (v l.var)

-- one literal is true
abbrev pub clause_true : (ℕ → Bool) → List Literal → Bool
clause_true v [] = false
clause_true v (l ∷ ls) = lit_value v l || clause_true v ls

-- a clause, or none, which holds in every assignment
abbrev pub option_true : (ℕ → Bool) → Option (List Literal) → Bool
option_true v None = true
option_true v (Some c) = clause_true v c

-- each clause has a true literal
abbrev pub satisfies : (ℕ → Bool) → List (List Literal) → Bool
satisfies v [] = true
satisfies v (c ∷ cs) = clause_true v c && satisfies v cs

-- the truth values of the variables from 1 on, in order
abbrev pub assigned : List Bool → ℕ → Bool
assigned bits x = slice_index_or bits (x - 1) false
