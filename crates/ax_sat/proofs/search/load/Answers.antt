use Rattle.ax_sat.proofs.Watches.{over_at}
use Rattle.ax_sat.proofs.search.load.Goals as goal

pub put-requires : goal.put-requires
put-requires c = over_at _ _ c.args.clauses.now c.loop-clause.clause-index c.clause-item.result c.loop-clause.invariant.vars c.loop-clause-test.true c.clause-item.is c.requires
