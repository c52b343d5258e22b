use Rattle.std.proofs.Common.{◌≡◌, drop, []}
use Rattle.ax_interp_acts.specs.Within.{zeros_by}
use Rattle.ax_interp_acts.proofs.zeros.marked_zeros.Given as goal

abbrev pub invariant-loop-def : goal.invariant-loop-def
invariant-loop-def l = zeros_by l.marks l.done (drop l.def-index l.structs) ≡ zeros_by l.marks [] l.structs
