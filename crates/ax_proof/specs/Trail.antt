-- What a list of true literals says of literals and clauses.
use Rattle.std.specs.Prelude.{◌≡◌, ◌≢◌, ℕ, ◌+◌, ◌-◌, ◌<◌, ◌≤◌, ◌⊎◌, Bool, true, false, Option, Some, None, List, [], ◌∷◌, ◌++◌, length, take, slice_index_or}
use Rattle.std.specs.List.{All, AllPairs, Contains}
use Rattle.ax_proof.specs.Literal.{Literal, negation}
use Rattle.ax_proof.specs.declared.trail.Truth.{Truth}
use Rattle.ax_proof.specs.declared.trail.Truth.TheVariants.{True, False, Open}
use Rattle.ax_proof.specs.declared.trail.Judgement.{Judgement}
use Rattle.ax_proof.specs.declared.trail.Judgement.TheVariants.{Satisfied, Falsified, Unit as UnitOf, Undecided}

-- neither the literal nor its negation is true
abbrev pub IsOpen : List Literal → Literal → Type 0
IsOpen trail l = (Contains trail l → ⊥) × (Contains trail (negation l) → ⊥)

-- some literal of the clause is true
abbrev pub IsSatisfied : List Literal → List Literal → Type 0
IsSatisfied trail c = (l : Literal) × Contains c l × Contains trail l

-- all literals of the clause are false
abbrev pub IsFalsified : List Literal → List Literal → Type 0
IsFalsified trail c = (l : Literal) → Contains c l → Contains trail (negation l)

-- this literal of the clause is open, and all others are false
abbrev pub IsUnit : List Literal → List Literal → Literal → Type 0
IsUnit trail c u = Contains c u × IsOpen trail u × ((l : Literal) → Contains c l → l ≢ u → Contains trail (negation l))

-- two literals of the clause are open
abbrev pub HasTwoOpen : List Literal → List Literal → Type 0
HasTwoOpen trail c = (a b : Literal) × (a ≢ b) × Contains c a × Contains c b × IsOpen trail a × IsOpen trail b

-- true, or with two open literals
abbrev pub IsSettled : List Literal → List Literal → Type 0
IsSettled trail c = IsSatisfied trail c ⊎ HasTwoOpen trail c

-- no literal stands with its negation
abbrev pub IsConsistent : List Literal → Type 0
IsConsistent trail = (l : Literal) → Contains trail l → Contains trail (negation l) → ⊥

-- what is known of a literal
abbrev pub Says : List Literal → Literal → Truth → Type 0
Says trail l True = Contains trail l × (Contains trail (negation l) → ⊥)
Says trail l False = Contains trail (negation l) × (Contains trail l → ⊥)
Says trail l Open = IsOpen trail l

-- what is known of a clause
abbrev pub Judges : List Literal → List Literal → Judgement → Type 0
Judges trail c Satisfied = (l : Literal) × Contains c l × Says trail l True
Judges trail c Falsified = IsFalsified trail c
Judges trail c (UnitOf u) = IsUnit trail c u
Judges trail c Undecided = HasTwoOpen trail c

-- Literals in the order in which they became true, the number of the clause that forced each, from 1, or 0 where none
-- did, and a number above all their variables.
pub record TrailState : Type 0 where
  pub lits : List Literal
  pub reasons : List ℕ
  pub size : ℕ

-- what holds of each trail
pub record IsTrail (t : TrailState) : Type 0 where
  pub within : length t.lits ≤ t.size
  pub paired : length t.reasons ≡ length t.lits
  pub once : AllPairs (λ a b. a.var ≢ b.var) t.lits
