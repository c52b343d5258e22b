-- What a run that returned shows.
use Rattle.std.proofs.Common.{◌≡◌, sym, ap, ◌∙◌, List, Some}
use Rattle.std.specs.Prelude.{ℤ}
use Rattle.ax_prog.specs.declared.Test.{Test}
use Rattle.ax_meaning.specs.declared.Cell.TheVariants.{Int}
use Rattle.ax_meaning.specs.declared.Run.{Run}
use Rattle.ax_meaning.specs.declared.RunEnd.TheVariants as end
use Rattle.ax_meaning.specs.Execution.{Returned}
use Rattle.ax_meaning.specs.Runs.{shown}
use Rattle.ax_interp_acts.specs.Passing.{ShowsPass}

pub shows_is : (run : Run) (test : Test) (out : List ℤ) (ret : ℤ) → run.end ≡ end.Returned out ret → ret ≡ test.ret → out ≡ test.outputs → ShowsPass run test
shows_is run test out ret is same outputs = record {
  returned = ap (λ e. (shown (record run { end = e })).ending) is ∙ ap (λ n. Returned (Some (Int n))) same;
  printed = ap (λ e. (shown (record run { end = e })).output) is ∙ outputs;
}

pub shows_out : (run : Run) (test : Test) (out : List ℤ) (ret : ℤ) → run.end ≡ end.Returned out ret → ShowsPass run test → out ≡ test.outputs
shows_out run test out ret is shows = sym (ap (λ e. (shown (record run { end = e })).output) is) ∙ shows.printed
