use Rattle.std.proofs.Common.{◌≡◌, ◌≤◌, take}
use Rattle.ax_interp_report.specs.Texts.{pass_count}
use Rattle.ax_interp_report.proofs.report.count_passing.Given as goal

abbrev pub invariant-loop-verdict : goal.invariant-loop-verdict
invariant-loop-verdict l = record {
  count : l.passing ≡ pass_count (take l.verdict-index l.verdicts);
  most : l.passing ≤ l.verdict-index;
}
