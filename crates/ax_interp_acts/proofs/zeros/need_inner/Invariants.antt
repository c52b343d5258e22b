use Rattle.std.proofs.Common.{◌≡◌}
use Rattle.std.specs.Prelude.{length}
use Rattle.ax_interp_acts.specs.Within.{with_inner}
use Rattle.ax_interp_acts.proofs.zeros.need_inner.Given as goal

abbrev pub invariant-loop-at : goal.invariant-loop-at
invariant-loop-at l = with_inner l.structs l.at l.marks ≡ with_inner l.structs (length l.structs) l.fn.marks

abbrev pub decreases-loop-at : goal.decreases-loop-at
decreases-loop-at l = l.at
