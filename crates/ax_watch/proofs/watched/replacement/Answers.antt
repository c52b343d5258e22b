use Rattle.ax_watch.proofs.Watching.{else_more, same_code}
use Rattle.ax_watch.proofs.watched.replacement.Goals as goal
use Rattle.ax_watch.proofs.watched.replacement.Goals.{then-ne+in-False, else-ne}

pub loop-lit-preserved : goal.loop-lit-preserved
loop-lit-preserved c =
    elim c.if-ne.branch [
      | then-ne+in-False w ↦ else_more _ _ c.args.other c.loop-lit.lit-index c.lit-item.result c.loop-lit-test.true c.lit-item.is (λ ne. w.in-False.ensures.0) c.loop-lit.invariant
      | else-ne w ↦ else_more _ _ c.args.other c.loop-lit.lit-index c.lit-item.result c.loop-lit-test.true c.lit-item.is (λ ne. absurd (ne (same_code c.lit-item.result c.args.other w.if-ne.ensures))) c.loop-lit.invariant
    ]
