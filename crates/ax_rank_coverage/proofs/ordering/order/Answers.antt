use Rattle.std.proofs.Common.{◌<◌, ◌+◌, ◌-◌, ◌^◌, rules, arith}
use Rattle.ax_rank_coverage.proofs.Orders.{order-of, places-of}
use Rattle.ax_rank_coverage.proofs.Shown.{none-stopped, seen-all, stopped-some}
use Rattle.ax_rank_coverage.proofs.ordering.order.Goals as goal

pub returns-in_err-count-clause-stopped : goal.returns-in_err-count-clause-stopped
returns-in_err-count-clause-stopped g c = none-stopped c.args.program.now c.args.steps c.args.tests.now ((goal.Ranker-dyn g c.args.ranker.now).runs c.args.ranker.now.1) _

pub returns-in_err-shown-clause-stopped : goal.returns-in_err-shown-clause-stopped
returns-in_err-shown-clause-stopped g c = none-stopped c.args.program.now c.args.steps c.args.tests.now ((goal.Ranker-dyn g c.args.ranker.now).runs c.args.ranker.now.1) _

pub returns-clause-order : goal.returns-clause-order
returns-clause-order g c =
    order-of ((goal.Ranker-dyn g c.args.ranker.now).formula c.args.ranker.now.1) ((goal.Ranker-dyn g c.args.ranker.now).runs c.args.ranker.now.1)
    c.args.program.now c.args.steps c.args.tests.now c.rank.result c.in_ok-shown.shown.items c.as_slice.result.now c.in_ok-count.count c.as_slice.ensures.value
    c.in_ok-shown.ensures c.in_ok-count.ensures c.rank.ensures.order

pub returns-clause-places : goal.returns-clause-places
returns-clause-places g c =
    let few : c.in_ok-count.count < 2 ^ 64 - 1 + 1 = search rules in
    places-of ((goal.Ranker-dyn g c.args.ranker.now).formula c.args.ranker.now.1) ((goal.Ranker-dyn g c.args.ranker.now).runs c.args.ranker.now.1)
    c.args.program.now c.args.steps c.args.tests.now c.rank.result c.as_slice.result.now c.in_ok-count.count (2 ^ 64 - 1) few c.rank.ensures.order

pub returns-clause-seen : goal.returns-clause-seen
returns-clause-seen g c =
    seen-all c.args.program.now c.args.steps c.args.tests.now ((goal.Ranker-dyn g c.args.ranker.now).runs c.args.ranker.now.1)
    c.rank.result c.in_ok-shown.shown.items c.as_slice.result.now _ c.as_slice.ensures.value c.in_ok-shown.ensures c.rank.ensures.seen

pub returns-clause-stopped : goal.returns-clause-stopped
returns-clause-stopped g c =
    stopped-some c.args.program.now c.args.steps c.args.tests.now ((goal.Ranker-dyn g c.args.ranker.now).runs c.args.ranker.now.1)
    c.rank.result c.in_ok-shown.shown.items c.as_slice.result.now _ c.as_slice.ensures.value c.in_ok-shown.ensures c.rank.ensures.stopped
