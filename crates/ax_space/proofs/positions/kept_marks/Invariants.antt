use Rattle.std.proofs.Common.{take}
use Rattle.ax_space.specs.Positions.{HasOperands, Firsts}
use Rattle.ax_space.proofs.positions.kept_marks.Given as goal

abbrev pub invariant-loop-mark : goal.invariant-loop-mark
invariant-loop-mark l = Firsts (HasOperands l.grow l.old l.word) (take l.mark-index l.marks) l.all
