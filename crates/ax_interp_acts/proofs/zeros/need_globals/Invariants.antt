use Rattle.std.proofs.Common.{◌≡◌, drop}
use Rattle.ax_interp_acts.specs.Within.{with_globals}
use Rattle.ax_interp_acts.proofs.zeros.need_globals.Given as goal

abbrev pub invariant-loop-global : goal.invariant-loop-global
invariant-loop-global l = with_globals l.program (drop l.global-index l.global-items) l.marks ≡ with_globals l.program l.global-items l.fn.marks
