-- What a repair is, and which repairs are least.
use Rattle.std.specs.Prelude.{ℕ, ◌≤◌, List}
use Rattle.std.specs.List.{All}
use Rattle.ax_prog.specs.declared.Bounds.{Bounds}
use Rattle.ax_prog.specs.declared.Program.{Program}
use Rattle.ax_prog.specs.declared.SlotId.{SlotId}
use Rattle.ax_prog.specs.declared.Test.{Test}
use Rattle.ax_meaning.specs.Runs.{Seen, Passes, run_of, evaluations}
use Rattle.ax_space.specs.declared.Patch.{Patch}
use Rattle.ax_space.specs.Chosen.{Chosen}
use Rattle.ax_space.specs.Patches.{IsPatch, PatchCost, patched}

-- the run has at most so many steps, and begins at most so many evaluations of these expressions, all counted together
pub record KeepsBounds (bounds : Bounds) (ids : List SlotId) (run : Seen) : Type 0 where
  pub few_steps : run.used ≤ bounds.steps
  pub few_evaluations : evaluations ids run.counts ≤ bounds.evals

-- the program passes the test by a run that keeps the bounds
pub record PassesWithin (program : Program) (bounds : Bounds) (ids : List SlotId) (test : Test) : Type 0 where
  pub passes : Passes program bounds.steps test
  pub keeps : KeepsBounds bounds ids (run_of program test.inputs bounds.steps)

-- a patch of the space whose patched program passes every test within the bounds
pub record IsRepair (program : Program) (tests : List Test) (bounds : Bounds) (space : Chosen) (patch : Patch) : Type 0 where
  pub in_space : IsPatch space patch
  pub passes : All (PassesWithin (patched program space.ids patch) bounds space.ids) tests

-- a repair of this cost, where no repair costs less
pub record IsLeastRepair (program : Program) (tests : List Test) (bounds : Bounds) (space : Chosen) (patch : Patch) (cost : ℕ) : Type 0 where
  pub repair : IsRepair program tests bounds space patch
  pub costs : PatchCost space patch cost
  pub least : (other : Patch) (k : ℕ) → IsRepair program tests bounds space other → PatchCost space other k → cost ≤ k

-- a repair has this cost, and no repair costs less
abbrev pub IsLeastCost : Program → List Test → Bounds → Chosen → ℕ → Type 0
IsLeastCost program tests bounds space cost = (patch : Patch) × IsLeastRepair program tests bounds space patch cost

abbrev pub NoRepair : Program → List Test → Bounds → Chosen → Type 0
NoRepair program tests bounds space = (patch : Patch) → IsRepair program tests bounds space patch → ⊥
