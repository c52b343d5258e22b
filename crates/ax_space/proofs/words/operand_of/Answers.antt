use Rattle.std.proofs.Common.{arith, Some}
use Rattle.ax_space.proofs.Walking.{no-operand}
use Rattle.ax_space.proofs.words.operand_of.Goals as goal

pub returns : goal.returns
returns c = no-operand (Some c.args.tree.now) c.args.at (λ a b. let x = c.if-at-eq1.false in let y = c.if-at-eq2.false in let z = c.if-at-eq3.false in omega arith)
