use Rattle.std.proofs.Common.{◌≡◌}
use Rattle.ax_sat.proofs.Watches.{clause_stays, no_clash_here, more_copied}
use Rattle.ax_sat.proofs.base.copied.Goals as goal

pub unreachable-requires : goal.unreachable-requires
unreachable-requires c =
    let made = rw (c.in-None.is, c.lits.ensures.value) at c.in_ok-copy.ensures.value in
    no_clash_here c.clause-item.result c.lits.ensures.rising made

pub loop-clause-preserved : goal.loop-clause-preserved
loop-clause-preserved c =
    let made = rw (c.in-Some.is, c.lits.ensures.value) at c.in_ok-copy.ensures.value in
    let same : c.in-Some.copy ≡ c.clause-item.result = clause_stays c.clause-item.result c.in-Some.copy c.lits.ensures.rising made in
    more_copied c.args.clauses.now c.loop-clause.clause-index c.clause-item.result c.in-Some.copy _ _ c.loop-clause-test.true c.clause-item.is same c.loop-clause.invariant c.in_ok-push-in-Some.ensures.items
