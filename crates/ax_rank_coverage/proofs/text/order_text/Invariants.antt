use Rattle.std.proofs.Common.{◌≡◌, take}
use Rattle.ax_rank_coverage.specs.Texts.{order_report}
use Rattle.ax_rank_coverage.proofs.text.order_text.Given as goal

abbrev pub invariant-loop-standing : goal.invariant-loop-standing
invariant-loop-standing l = l.text.items ≡ order_report (take l.standing-index l.order)
