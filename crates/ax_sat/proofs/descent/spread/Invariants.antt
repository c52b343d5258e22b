use Rattle.std.proofs.Common.{◌≡◌}
use Rattle.ax_sat.proofs.descent.spread.Given as goal

abbrev pub invariant-loop-index : goal.invariant-loop-index
invariant-loop-index l = l.marks ≡ l.fn.marks
