use Rattle.std.proofs.Common.{◌≡◌, arith, true}
use Rattle.ax_sat.proofs.Watches.{over_at_all, over_next, over_every}
use Rattle.ax_sat.proofs.over.are_over.Goals as goal

pub returns-then-not-is_over : goal.returns-then-not-is_over
returns-then-not-is_over c = (
  λ e. cc,
  λ over.
      let here = over_at_all _ _ c.loop-clause.clause-index c.clause-item.result c.loop-clause-test.true c.clause-item.is over in
      let yes : c.is_over.result ≡ true = c.is_over.ensures.1 (rw c.lits.ensures.value here) in
      cc,
)

pub loop-clause-preserved : goal.loop-clause-preserved
loop-clause-preserved c =
    let here = rw c.lits.ensures.value at (c.is_over.ensures.0 c.if-not-is_over.false) in
    over_next _ _ c.loop-clause.clause-index c.clause-item.result c.loop-clause-test.true c.clause-item.is here c.loop-clause.invariant

pub returns : goal.returns
returns c = (λ e. over_every _ _ c.loop-clause.clause-index (omega arith) c.loop-clause.invariant, λ over. cc)
