use Rattle.ax_repair.proofs.Parts.{part-same, part-other}
use Rattle.ax_repair.proofs.written.part.Goals as goal

pub returns-then-same_expr : goal.returns-then-same_expr
returns-then-same_expr c = part-same c.args.source.now c.args.program.now c.args.id c.args.tree.now c.in-Some.slot.now c.same_expr.result c.in-Some.ensures.value c.same_expr.ensures c.if-same_expr.true

pub returns-in_ok-text-in-Some : goal.returns-in_ok-text-in-Some
returns-in_ok-text-in-Some c =
    part-other c.args.source.now c.args.program.now c.args.id c.args.tree.now c.in-Some.slot.now c.same_expr.result c.in_ok-text-in-Some.text c.in-Some.ensures.value c.same_expr.ensures c.if-same_expr.false c.in_ok-text-in-Some.ensures
