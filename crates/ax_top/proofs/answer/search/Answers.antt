use Rattle.ax_top.proofs.Chosen.{searched-lent}
use Rattle.ax_top.proofs.answer.search.Goals as goal

pub returns-in-Ok : goal.returns-in-Ok
returns-in-Ok g c =
    searched-lent _ c.args.order.now c.args.source.now c.args.program.now c.as_slice.result.now c.args.suite.now.tests c.as_slice-in-Ok.result.now
    c.in-Ok.numbers c.answer_for.result c.as_slice.ensures c.as_slice-in-Ok.ensures c.in-Ok.ensures c.answer_for.ensures
