-- Which candidates the runs of a suite cover.
use Rattle.std.specs.Prelude.{◌≡◌, ◌↔◌, ℕ, nat_lt, Bool, IsTrue, List, map, slice_get}
use Rattle.std.specs.List.{AllZip}
use Rattle.ax_prog.specs.declared.Program.{Program}
use Rattle.ax_prog.specs.declared.SlotId.{SlotId}
use Rattle.ax_prog.specs.declared.Test.{Test}
use Rattle.ax_prog.specs.Candidates.{candidates_of}
use Rattle.ax_meaning.specs.Types.{or_zero}
use Rattle.ax_meaning.specs.Runs.{Passes, Seen, run_of}
use Rattle.ax_rank.specs.declared.ranker.SeenRun.{SeenRun}

-- an evaluation of the slot began
abbrev pub has_begun : Seen → SlotId → Bool
has_begun run id = nat_lt 0 (or_zero (slice_get run.counts id.0))

-- a run covers the candidates of which an evaluation began
abbrev pub covered_by : List SlotId → Seen → List Bool
covered_by candidates run = map (λ id. has_begun run id) candidates

-- the run of a test within so many steps: which of the program's candidates it covers, and whether it passes
pub record IsRunOf (program : Program) (steps : ℕ) (test : Test) (run : SeenRun) : Type 0 where
  pub covered : run.covered ≡ covered_by (candidates_of program) (run_of program test.inputs steps)
  pub passed : IsTrue run.passed ↔ Passes program steps test

-- a run for each test, in the order of the suite
abbrev pub AreRunsOf : Program → ℕ → List Test → List SeenRun → Type 0
AreRunsOf program steps tests runs = AllZip (IsRunOf program steps) tests runs
