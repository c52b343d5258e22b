use Rattle.std.proofs.Common.{refl, arith, ◌∙◌}
use Rattle.ax_rank.proofs.Orders.{standings_more}
use Rattle.ax_rank.proofs.places.score_each.Goals as goal

pub loop-place-preserved : goal.loop-place-preserved
loop-place-preserved g c = (omega (arith, c.loop-place-test.true), c.in_ok-push.ensures.items ∙ standings_more _ c.loop-place.place _ _ c.score-score.ensures refl _ c.loop-place.invariant.1)
