use Rattle.std.proofs.Common.{arith}
use Rattle.ax_watch.proofs.Trails.{over_more, not_over, all_over}
use Rattle.ax_sat.proofs.over.is_over.Goals as goal

pub returns-then-var-vars : goal.returns-then-var-vars
returns-then-var-vars c = (λ e. cc, λ over. absurd (not_over _ _ c.loop-lit.lit-index c.lit-item.result c.loop-lit-test.true c.lit-item.is (omega arith) over))

pub loop-lit-preserved : goal.loop-lit-preserved
loop-lit-preserved c = over_more _ _ c.loop-lit.lit-index c.lit-item.result c.loop-lit-test.true c.lit-item.is (omega arith) (omega arith) c.loop-lit.invariant

pub returns : goal.returns
returns c = (λ e. all_over _ _ c.loop-lit.lit-index (omega arith) c.loop-lit.invariant, λ over. cc)
