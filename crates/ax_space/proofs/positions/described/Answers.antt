use Rattle.std.proofs.Common.{◌∙◌}
use Rattle.ax_space.specs.Positions.{IsDescribed}
use Rattle.ax_space.proofs.Places.{described-more}
use Rattle.ax_space.proofs.positions.described.Goals as goal

pub loop-word-preserved : goal.loop-word-preserved
loop-word-preserved c =
    rw c.in_ok-push.ensures.ok
    (described-more (IsDescribed c.args.sets.now c.args.grow c.args.slot.now) c.args.words.now c.loop-word.all c.loop-word.word-index c.word-item.result c.in_ok-own.own c.loop-word-test.true c.word-item.is (c.in_ok-own.ensures.word ∙ c.as_slice.ensures) c.in_ok-own.ensures.described c.loop-word.invariant)
