use Rattle.std.proofs.Common.{take}
use Rattle.ax_space.proofs.Rising.{Risen}
use Rattle.ax_space.proofs.choosing.are_rising.Given as goal

abbrev pub invariant-loop-id : goal.invariant-loop-id
invariant-loop-id l = Risen (take l.id-index l.chosen) l.least
