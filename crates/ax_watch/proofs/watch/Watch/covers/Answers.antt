use Rattle.std.proofs.Common.{◌≤◌, length, arith}
use Rattle.ax_watch.proofs.Trails.{over_more, not_over, all_over}
use Rattle.ax_watch.proofs.watch.Watch.covers.Goals as goal

pub returns-then-var-vars : goal.returns-then-var-vars
returns-then-var-vars c =
    let here = rw c.lits-lit-items.ensures.value at c.lit-item.is in
    let within = rw c.lits-lit-items.ensures.value at c.loop-lit-test.true in
    (λ e. cc, λ over. absurd (not_over _ _ c.loop-lit.lit-index c.lit-item.result within here (omega arith) over))

pub loop-lit-preserved : goal.loop-lit-preserved
loop-lit-preserved c =
    let here = rw c.lits-lit-items.ensures.value at c.lit-item.is in
    let within = rw c.lits-lit-items.ensures.value at c.loop-lit-test.true in
    over_more _ _ c.loop-lit.lit-index c.lit-item.result within here (omega arith) (omega arith) c.loop-lit.invariant

pub returns : goal.returns
returns c =
    let all : length c.args.clause.now ≤ c.loop-lit.lit-index = rw (← c.lits-lit-items.ensures.value) (omega arith) in
    (λ e. rw (← c.vars-vars.ensures) (all_over _ _ c.loop-lit.lit-index all c.loop-lit.invariant), λ over. cc)
