-- A run that is over: how it ended, and whether it passes a test.
use Rattle.std.specs.Prelude.{◌≡◌, ℕ, ℤ, List, Some}
use Rattle.ax_prog.specs.declared.Test.{Test}
use Rattle.ax_meaning.specs.declared.Cell.TheVariants.{Int}
use Rattle.ax_meaning.specs.declared.Run.{Run}
use Rattle.ax_meaning.specs.declared.RunEnd.{RunEnd}
use Rattle.ax_meaning.specs.Execution.{Ending, Returned}
use Rattle.ax_meaning.specs.Runs.{shown}

-- the run returned the test's number, and printed the test's outputs
pub record ShowsPass (run : Run) (test : Test) : Type 0 where
  pub returned : (shown run).ending ≡ Returned (Some (Int test.ret))
  pub printed : (shown run).output ≡ test.outputs

-- a run with this end shows this ending and this output
abbrev pub ShowsEnd : Ending → List ℤ → RunEnd → Type 0
ShowsEnd e out end =
    (used : ℕ) (counts : List ℕ) → shown (record { end = end; used = used; counts = counts }) ≡ record { ending = e; output = out; used = used; counts = counts }
