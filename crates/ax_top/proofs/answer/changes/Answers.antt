use Rattle.ax_top.proofs.Chosen.{changed-is}
use Rattle.ax_top.proofs.answer.changes.Goals as goal

pub returns-in-Some : goal.returns-in-Some
returns-in-Some c = changed-is c.args.program.now c.args.id c.args.tree.now c.in-Some.slot.now c.same_expr.result c.in-Some.ensures.value c.same_expr.ensures
