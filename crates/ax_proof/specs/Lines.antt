-- Lines of proofs.
use Rattle.std.specs.Prelude.{◌≡◌, ◌≢◌, ℕ, ◌+◌, ◌<◌, ◌≤◌, ◌++◌, List, [], ◌∷◌, length, map, take, slice_index_or}
use Rattle.std.specs.List.{All, Contains}
use Rattle.ax_proof.specs.Literal.{Literal, negation}
use Rattle.ax_proof.specs.Clause.{SameLiterals}
use Rattle.ax_proof.specs.Propagation.{Propagates, Conflicts, HasRup}

-- the line at a place, from 0
abbrev pub line_at : List (List Literal) → ℕ → List Literal
line_at lines at = slice_index_or lines at []

-- each line has reverse unit propagation from the clauses and the lines before it
abbrev pub IsLawful : List (List Literal) → List (List Literal) → Type 0
IsLawful clauses lines = (at : ℕ) → at < length lines → HasRup (clauses ++ take at lines) (line_at lines at)

-- the last line is empty, and no other
abbrev pub EndsEmpty : List (List Literal) → Type 0
EndsEmpty lines = (before : List (List Literal)) × (lines ≡ before ++ [] ∷ []) × All (λ line. line ≢ []) before

abbrev pub IsProof : List (List Literal) → List (List Literal) → Type 0
IsProof clauses lines = IsLawful clauses lines × EndsEmpty lines

-- The line has a literal l such that unit propagation, where the others are assumed to be false, meets no false clause
-- and does not make l true.
abbrev pub IsNew : List (List Literal) → List Literal → Type 0
IsNew clauses line =
    (l : Literal)
    × (others : List Literal)
    × SameLiterals line (l ∷ others)
    × (Contains others l → ⊥)
    × (Conflicts clauses (map negation others) → ⊥)
    × (Propagates clauses (map negation others) l → ⊥)

-- this line is the first without reverse unit propagation
abbrev pub IsFirstUnlawful : List (List Literal) → List (List Literal) → ℕ → Type 0
IsFirstUnlawful clauses lines at =
    (at < length lines)
    × IsLawful clauses (take at lines)
    × (HasRup (clauses ++ take at lines) (line_at lines at) → ⊥)
