use Rattle.std.proofs.Common.{◌≡◌, take, true}
use Rattle.std.specs.List.{All}
use Rattle.ax_interp_report.specs.Texts.{passes}
use Rattle.ax_interp_report.proofs.running.all_pass.Given as goal

abbrev pub invariant-loop-verdict : goal.invariant-loop-verdict
invariant-loop-verdict l = All (λ v. passes v ≡ true) (take l.verdict-index l.verdicts)
