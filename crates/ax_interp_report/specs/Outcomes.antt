-- What comes of an order to run.
use Rattle.std.specs.Prelude.{◌≡◌, ◌⊎◌, ℕ, List}
use Rattle.std.specs.List.{All}
use Rattle.ax_prog.specs.declared.Program.{Program}
use Rattle.ax_prog.specs.declared.Test.{Test}
use Rattle.ax_meaning.specs.Runs.{Passes}
use Rattle.ax_interp_report.specs.declared.verdict.Verdict.{Verdict}
use Rattle.ax_interp_report.specs.Texts.{run_report}
use Rattle.ax_interp_report.specs.Verdicts.{FareIn}

-- 0 where the program passes every test, and else 1
abbrev pub IsStatus : Program → ℕ → List Test → ℕ → Type 0
IsStatus program steps tests status =
    ((status ≡ 0) × All (Passes program steps) tests) ⊎ ((status ≡ 1) × (All (Passes program steps) tests → ⊥))

-- the report has the verdicts on the program's runs
pub record IsOutcome (program : Program) (tests : List Test) (steps : ℕ) (report : List ℕ) (status : ℕ) : Type 0 where
  pub verdicts : List Verdict
  pub fare : FareIn program steps tests verdicts
  pub is_report : report ≡ run_report verdicts
  pub is_status : IsStatus program steps tests status
