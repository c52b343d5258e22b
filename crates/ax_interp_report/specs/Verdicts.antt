-- How a program does in a test (C11 5.1.2.2.3 for the number that `main` returns).
use Rattle.std.specs.Prelude.{◌≡◌, ◌≢◌, ℕ, ℤ, List, Some}
use Rattle.std.specs.List.{AllZip}
use Rattle.ax_prog.specs.declared.Program.{Program}
use Rattle.ax_prog.specs.declared.Test.{Test}
use Rattle.ax_meaning.specs.declared.Cell.TheVariants.{Int}
use Rattle.ax_meaning.specs.declared.Why.{Why}
use Rattle.ax_meaning.specs.Acts as acts
use Rattle.ax_meaning.specs.Execution.{Ending, Returned, Stopped}
use Rattle.ax_meaning.specs.Runs.{run_of}
use Rattle.ax_interp_report.specs.declared.verdict.Verdict.{Verdict}
use Rattle.ax_interp_report.specs.declared.verdict.Verdict.TheVariants.{Passes, Undefined, OutOfSteps, WrongOutput, WrongReturn}

-- A run with this ending and this output, on the test's inputs: it returns the number and printed the numbers that the test
-- wants; or the first of four ways to fail holds.
abbrev pub IsVerdict : Ending → List ℤ → Test → Verdict → Type 0
IsVerdict ending output test Passes = (ending ≡ Returned (Some (Int test.ret))) × (output ≡ test.outputs)
IsVerdict ending output test Undefined = (why : Why) × (ending ≡ Stopped (acts.Undefined why))
IsVerdict ending output test OutOfSteps = ending ≡ Stopped acts.OutOfSteps
IsVerdict ending output test WrongOutput = (n : ℤ) × (ending ≡ Returned (Some (Int n))) × (output ≢ test.outputs)
IsVerdict ending output test WrongReturn = (n : ℤ) × (ending ≡ Returned (Some (Int n))) × (output ≡ test.outputs) × (n ≢ test.ret)

-- the verdict on the program's run on the test's inputs, within so many steps
abbrev pub Fares : Program → ℕ → Test → Verdict → Type 0
Fares program steps test verdict =
    IsVerdict (run_of program test.inputs steps).ending (run_of program test.inputs steps).output test verdict

-- a verdict for each test, in order
abbrev pub FareIn : Program → ℕ → List Test → List Verdict → Type 0
FareIn program steps tests verdicts = AllZip (Fares program steps) tests verdicts

-- a run has one verdict
abbrev pub OneVerdict : Type 0
OneVerdict = (ending : Ending) (output : List ℤ) (test : Test) (a b : Verdict) → IsVerdict ending output test a → IsVerdict ending output test b → a ≡ b
