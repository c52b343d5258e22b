use Rattle.ax_sat.specs.Search.{AreAssigned}
use Rattle.ax_sat.proofs.descent.first_open.Given as goal

abbrev pub invariant-loop-before : goal.invariant-loop-before
invariant-loop-before l = AreAssigned l.watch.trail l.before
