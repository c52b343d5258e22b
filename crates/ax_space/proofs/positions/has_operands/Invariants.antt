use Rattle.ax_space.proofs.Places.{HasBefore}
use Rattle.ax_space.proofs.positions.has_operands.Given as goal

abbrev pub invariant-loop-before : goal.invariant-loop-before
invariant-loop-before l = HasBefore l.grow l.old l.word l.before
