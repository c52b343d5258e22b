-- Laws of spaces and patches, each stated for all.
use Rattle.std.specs.Prelude.{◌≡◌, ℕ, pos, false, Some, slice_get}
use Rattle.ax_prog.specs.declared.Expr.{Expr}
use Rattle.ax_prog.specs.declared.SlotId.{SlotId}
use Rattle.ax_prog.specs.declared.Program.{Program}
use Rattle.ax_prog.specs.Substitution.{Fits}
use Rattle.ax_space.specs.declared.Patch.{Patch}
use Rattle.ax_space.specs.Chosen.{Chosen, AreChosen, IsSpaceOf, SlotsFit, space_of}
use Rattle.ax_space.specs.Patches.{IsPatch, PatchCost, IsWithin}

-- a patch has one cost
abbrev pub CostIsUnique : Type 0
CostIsUnique = (space : Chosen) (patch : Patch) (j k : ℕ) → PatchCost space patch j → PatchCost space patch k → j ≡ k

-- without guards each patch has a cost
abbrev pub CostExists : Type 0
CostExists = (space : Chosen) → space.sets.guard ≡ false → (patch : Patch) → IsPatch space patch → (cost : ℕ) × PatchCost space patch cost

-- what has a cost is a patch
abbrev pub CostedIsPatch : Type 0
CostedIsPatch = (space : Chosen) (patch : Patch) (cost : ℕ) → PatchCost space patch cost → IsPatch space patch

-- without guards no new constant of a patch is above the largest `int`
abbrev pub ConstantsAreInts : Type 0
ConstantsAreInts = (space : Chosen) → space.sets.guard ≡ false → (patch : Patch) → IsPatch space patch → IsWithin (pos 2147483647) space patch

-- the space that is made for candidates in rising order is one of the program
abbrev pub MadeIsSpace : Type 0
MadeIsSpace = (program : Program) (space : Chosen) → AreChosen program space.ids → space ≡ space_of program space.ids space.sets space.grow → IsSpaceOf program space

-- each tree of a patch fits its slot, where the program's own trees fit theirs
abbrev pub PatchFits : Type 0
PatchFits =
    (program : Program) (space : Chosen) → IsSpaceOf program space → SlotsFit program.slots → (patch : Patch) → IsPatch space patch →
    (k : ℕ) (id : SlotId) (tree : Expr) → slice_get space.ids k ≡ Some id → slice_get patch.trees k ≡ Some tree → Fits program id tree
