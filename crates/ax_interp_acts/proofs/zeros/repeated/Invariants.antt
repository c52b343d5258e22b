use Rattle.std.proofs.Common.{◌≡◌}
use Rattle.ax_meaning.specs.Runs.{repeated}
use Rattle.ax_interp_acts.proofs.zeros.repeated.Given as goal

abbrev pub invariant-loop-at : goal.invariant-loop-at
invariant-loop-at l = l.all ≡ repeated l.at l.cells
