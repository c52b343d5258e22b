use Rattle.ax_sat.specs.Search.{AreBitsOf}
use Rattle.ax_sat.proofs.descent.bits_of.Given as goal

abbrev pub invariant-loop-before : goal.invariant-loop-before
invariant-loop-before l = AreBitsOf l.watch.trail l.before l.bits.items
