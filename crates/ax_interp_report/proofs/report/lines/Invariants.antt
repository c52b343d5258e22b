use Rattle.std.proofs.Common.{◌≡◌, take}
use Rattle.ax_interp_report.specs.Texts.{test_lines}
use Rattle.ax_interp_report.proofs.report.lines.Given as goal

abbrev pub invariant-loop-at : goal.invariant-loop-at
invariant-loop-at l = l.text.items ≡ test_lines 1 (take l.at l.verdicts)
