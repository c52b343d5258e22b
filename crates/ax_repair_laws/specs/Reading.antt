-- Repaired sources, read back.
use Rattle.std.specs.Prelude.{◌≡◌, ◌↔◌, ℕ, false, List}
use Rattle.std.specs.List.{All}
use Rattle.ax_prog.specs.declared.Bounds.{Bounds}
use Rattle.ax_prog.specs.declared.Expr.{Expr}
use Rattle.ax_prog.specs.declared.Program.{Program}
use Rattle.ax_prog.specs.declared.Sets.{Sets}
use Rattle.ax_prog.specs.declared.SlotId.{SlotId}
use Rattle.ax_prog.specs.declared.Test.{Test}
use Rattle.ax_prog.specs.Same.{SameProgram}
use Rattle.ax_front.specs.Texts.{IsProgramOfText}
use Rattle.ax_space_trees.specs.Space.{Changes}
use Rattle.ax_space.specs.declared.Patch.{Patch}
use Rattle.ax_space.specs.Chosen.{AreChosen, space_of}
use Rattle.ax_space.specs.Patches.{IsPatch, PatchCost, patched}
use Rattle.ax_least.specs.Least.{PassesWithin, IsRepair}
use Rattle.ax_front_facts.specs.Writable.{IsWritable}
use Rattle.ax_repair.specs.Written.{written}

-- the chosen expressions of the program of a text, and the trees of a patch, which can be written
pub record IsWritten (source : List ℕ) (program : Program) (ids : List SlotId) (patch : Patch) : Type 0 where
  pub text : IsProgramOfText source program
  pub chosen : AreChosen program ids
  pub writable : All IsWritable patch.trees

-- the written source is the text of the patched program, spans aside
pub record ReadsBack (source : List ℕ) (program : Program) (ids : List SlotId) (patch : Patch) : Type 0 where
  pub new : Program
  pub read : IsProgramOfText (written source program ids patch.trees) new
  pub same : SameProgram new (patched program ids patch)

-- the written source is the text of a program that passes every test within the bounds
pub record PassesBack (source : List ℕ) (program : Program) (tests : List Test) (bounds : Bounds) (ids : List SlotId) (patch : Patch) : Type 0 where
  pub back : ReadsBack source program ids patch
  pub passes : All (PassesWithin back.new bounds ids) tests

-- ---- laws

-- a source in which a patch is written reads back as the patched program
abbrev pub WrittenReadsBack : Type 0
WrittenReadsBack =
    (source : List ℕ) (program : Program) (ids : List SlotId) (sets : Sets) (grow : ℕ) (patch : Patch) →
    IsWritten source program ids patch → IsPatch (space_of program ids sets grow) patch → ReadsBack source program ids patch

-- a source in which a repair is written, read back, passes every test within the bounds
abbrev pub RepairedPasses : Type 0
RepairedPasses =
    (source : List ℕ) (program : Program) (tests : List Test) (bounds : Bounds) (ids : List SlotId) (sets : Sets) (grow : ℕ) (patch : Patch) →
    IsWritten source program ids patch → IsRepair program tests bounds (space_of program ids sets grow) patch →
    PassesBack source program tests bounds ids patch

-- the trees of every patch can be written, guards aside
abbrev pub PatchesAreWritable : Type 0
PatchesAreWritable =
    (source : List ℕ) (program : Program) (ids : List SlotId) (sets : Sets) (grow : ℕ) (patch : Patch) →
    IsProgramOfText source program → AreChosen program ids → sets.guard ≡ false → IsPatch (space_of program ids sets grow) patch →
    All IsWritable patch.trees

-- exactly the old tree has no changed node
abbrev pub UnchangedIsSame : Type 0
UnchangedIsSame = (old new : Expr) → Changes old new 0 ↔ (new ≡ old)

-- a source in which a patch of cost 0 is written is the given one
abbrev pub StaysAtCost0 : Type 0
StaysAtCost0 =
    (source : List ℕ) (program : Program) (ids : List SlotId) (sets : Sets) (grow : ℕ) (patch : Patch) →
    AreChosen program ids → PatchCost (space_of program ids sets grow) patch 0 → written source program ids patch.trees ≡ source
