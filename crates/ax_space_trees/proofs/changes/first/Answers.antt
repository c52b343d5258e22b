use Rattle.std.proofs.Common.{refl}
use Rattle.ax_prog.proofs.Trees.{operands-Un, operands-Bin, operands-Cond}
use Rattle.ax_space_trees.proofs.changes.first.Goals as goal

pub returns-in-Un : goal.returns-in-Un
returns-in-Un c = rw (c.in-Un.is, operands-Un, c.get.ensures) refl

pub returns-in-Bin : goal.returns-in-Bin
returns-in-Bin c = rw (c.in-Bin.is, operands-Bin, c.get-in-Bin.ensures) refl

pub returns-in-Cond : goal.returns-in-Cond
returns-in-Cond c = rw (c.in-Cond.is, operands-Cond, c.get-in-Cond.ensures) refl
