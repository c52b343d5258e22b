use Rattle.std.proofs.Common.{◌≡◌}
use Rattle.std.specs.Prelude.{false, replicate}
use Rattle.ax_interp_acts.proofs.zeros.no_marks.Given as goal

abbrev pub invariant-loop-at : goal.invariant-loop-at
invariant-loop-at l = l.marks ≡ replicate l.at false
