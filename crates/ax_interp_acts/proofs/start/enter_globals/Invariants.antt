use Rattle.std.proofs.Common.{◌≡◌, drop}
use Rattle.ax_interp_acts.specs.Within.{entered_from}
use Rattle.ax_interp_acts.proofs.start.enter_globals.Given as goal

abbrev pub invariant-loop-global : goal.invariant-loop-global
invariant-loop-global l = entered_from l.structs l.layout.program.now (drop l.global-index l.global-items) l.state ≡ entered_from l.structs l.layout.program.now l.global-items l.fn.state
