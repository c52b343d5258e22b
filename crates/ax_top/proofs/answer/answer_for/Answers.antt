use Rattle.ax_top.proofs.Chosen.{answered-is, unbuilt-is}
use Rattle.ax_top.proofs.answer.answer_for.Goals as goal

pub returns-in-Ok-None : goal.returns-in-Ok-None
returns-in-Ok-None c =
    unbuilt-is c.args.program.now (c.args.order.now).sets c.args.numbers.now (rw c.in-Ok-None.field-0-is at c.in-Ok-None.ensures)

pub returns-in-Ok : goal.returns-in-Ok
returns-in-Ok c =
    let picked = rw c.in-Ok-Some.field-0-is at c.in-Ok-Some.ensures in
    answered-is c.args.order.now c.args.source.now c.args.program.now c.args.suite.now.tests c.in-Ok-Some.picked c.args.numbers.now _ picked.0 picked.1 c.in-Ok.ensures
