use Rattle.std.proofs.Common.{◌≡◌, ◌∙◌, ◌++◌, List, ℕ, ap, ap₂, get_or, sym}
use Rattle.ax_interp_report.specs.declared.verdict.Verdict.TheVariants.{Passes}
use Rattle.ax_interp_report.proofs.Lines.{lines-more}
use Rattle.ax_interp_report.proofs.report.lines.Goals as goal

pub loop-at-preserved : goal.loop-at-preserved
loop-at-preserved c =
    c.in_ok-extend_from_slice.ensures.items
    ∙ ap₂ (λ (a b : List ℕ). a ++ b) c.loop-at.invariant (c.as_bytes.ensures.value ∙ c.in_ok-line.ensures)
    ∙ sym (lines-more c.args.verdicts.now c.loop-at.at Passes c.loop-at-test.true)
