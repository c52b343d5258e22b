-- What the search tries, and what it has found so far.
use Rattle.std.specs.Prelude.{◌≡◌, ℕ, ◌<◌, false, List, length, slice_get, Some}
use Rattle.std.specs.List.{All}
use Rattle.ax_prog.specs.declared.Bounds.{Bounds}
use Rattle.ax_prog.specs.declared.Program.{Program}
use Rattle.ax_prog.specs.declared.Test.{Test}
use Rattle.ax_space.specs.declared.Patch.{Patch}
use Rattle.ax_space.specs.Chosen.{Chosen, IsSpaceOf, SlotsFit}
use Rattle.ax_space.specs.Patches.{PatchCost}
use Rattle.ax_least.specs.Least.{IsRepair}

-- a space of the program without guards, where each slot's own tree fits it
pub record IsSearchable (program : Program) (space : Chosen) : Type 0 where
  pub of_program : IsSpaceOf program space
  pub no_guard : space.sets.guard ≡ false
  pub fitting : SlotsFit program.slots

-- none of these patches is a repair
abbrev pub NoneRepairs : Program → List Test → Bounds → Chosen → List Patch → Type 0
NoneRepairs program tests bounds space patches = All (λ patch. IsRepair program tests bounds space patch → ⊥) patches

-- the patch at this place is a repair
pub record RepairsAt (program : Program) (tests : List Test) (bounds : Bounds) (space : Chosen) (patches : List Patch) (at : ℕ) : Type 0 where
  pub within : at < length patches
  pub repair : (patch : Patch) → slice_get patches at ≡ Some patch → IsRepair program tests bounds space patch

-- a repair of this cost
pub record IsRepairOfCost (program : Program) (tests : List Test) (bounds : Bounds) (space : Chosen) (cost : ℕ) (patch : Patch) : Type 0 where
  pub repair : IsRepair program tests bounds space patch
  pub costs : PatchCost space patch cost

abbrev pub NoRepairOfCost : Program → List Test → Bounds → Chosen → ℕ → Type 0
NoRepairOfCost program tests bounds space cost = (patch : Patch) → IsRepairOfCost program tests bounds space cost patch → ⊥
