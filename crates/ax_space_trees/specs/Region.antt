-- The positions of a space as a tree of places, each with its labels.
use Rattle.std.specs.Prelude.{◌≡◌, ◌≢◌, ◌⊎◌, ℕ, zero, suc, List, Contains, AllPairs, Option, Some, None}
use Rattle.ax_prog.specs.declared.Expr.{Expr}
use Rattle.ax_space_trees.specs.declared.Label.{Label}
use Rattle.ax_space_trees.specs.declared.Choice.{Choice}
use Rattle.ax_space_trees.specs.declared.Place.{Place, Gone, At', more_of-Place, end_of-Place}
use Rattle.ax_space_trees.specs.Trees.{choice}
use Rattle.ax_space_trees.specs.Positions.{operand, labelled}

-- where a walk from the root stands: outside, or with this old node and so many letters left
pub data Spot : Type 0 where
  Out : Spot
  In : Option Expr → ℕ → Spot

-- the operand of this number where the old tree has none
abbrev pub fresh : ℕ → ℕ → Spot
fresh room zero = Out
fresh zero (suc k) = Out
fresh (suc room) (suc zero) = In None room
fresh (suc room) (suc (suc zero)) = In None room
fresh (suc room) (suc (suc (suc k))) = Out

abbrev pub child_from : ℕ → ℕ → ℕ → Option Expr → Spot
child_from grow room k None = fresh room k
child_from grow room k (Some tree) = In (Some tree) grow

abbrev pub child : ℕ → Spot → ℕ → Spot
child grow Out k = Out
child grow (In old room) k = child_from grow room k (operand old k)

abbrev pub old_of : Spot → Option Expr
old_of Out = None
old_of (In old room) = old

-- a label that a position may take
abbrev pub Lawful : (Label → Type 0) → Spot → Label → Type 0
Lawful allowed Out l = ⊥
Lawful allowed (In old room) l = (labelled old ≡ Some l) ⊎ allowed l

-- the cost of a label: 0 where it is the old one, else 1
pub data Own (old : Option Label) (l : Label) : ℕ → Type 0 where
  kept : Some l ≡ old → Own old l 0
  new : (Some l ≡ old → ⊥) → Own old l 1

pub record ChoicesAt (allowed : Label → Type 0) (spot : Spot) (choices : List Choice) : Type 0 where
  pub sound : (l : Label) (k : ℕ) → Contains choices (choice l k) → Lawful allowed spot l × Own (labelled (old_of spot)) l k
  pub complete : (l : Label) → Lawful allowed spot l → (k : ℕ) × Contains choices (choice l k)

-- the places from this spot on
abbrev pub IsRegion : (Label → Type 0) → ℕ → Spot → Place → Type 0
IsRegion allowed grow spot Gone = spot ≡ Out
IsRegion allowed grow spot (At' choices s (more_of-Place a end_of-Place) u (more_of-Place b end_of-Place) v (more_of-Place c end_of-Place)) =
    ChoicesAt allowed spot choices × IsRegion allowed grow (child grow spot 1) a × IsRegion allowed grow (child grow spot 2) b × IsRegion allowed grow (child grow spot 3) c

-- the region of an old tree: the positions of its space, with the labels of this list
abbrev pub IsRegionOf : Expr → ℕ → List Label → Place → Type 0
IsRegionOf old grow labels place = IsRegion (Contains labels) grow (In (Some old) grow) place

-- the labels of a position with this old label or none, each once: the old one at cost 0, the others of the list at 1
pub record IsChoices (labels : List Label) (old : Option Label) (choices : List Choice) : Type 0 where
  pub sound : (l : Label) (k : ℕ) → Contains choices (choice l k) → ((old ≡ Some l) ⊎ Contains labels l) × Own old l k
  pub complete : (l : Label) → (old ≡ Some l) ⊎ Contains labels l → (k : ℕ) × Contains choices (choice l k)
  pub once : AllPairs (λ x y. x.label ≢ y.label) choices
