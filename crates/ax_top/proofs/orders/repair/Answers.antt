use Rattle.ax_top.specs.Repairs.{refused}
use Rattle.ax_top.proofs.Chosen.{repair-ends}
use Rattle.ax_top.proofs.orders.repair.Goals as goal

pub returns-in-Err-clause-ends : goal.returns-in-Err-clause-ends
returns-in-Err-clause-ends g c = refused c.in-Err.ensures.judged

pub returns-in-Ok-clause-ends : goal.returns-in-Ok-clause-ends
returns-in-Ok-clause-ends g c =
    repair-ends (g.S.Shelf.seen c.args.shelf.now) (g.S.Shelf.seen c.judge_repair.new.shelf) _ c.args.order.now _ _ _ _ c.search.result
    c.as_slice.ensures.value c.in-Ok.ensures.judged c.search.ensures
