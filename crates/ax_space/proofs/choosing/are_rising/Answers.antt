use Rattle.std.proofs.Common.{get_or, refl}
use Rattle.ax_space_trees.proofs.Members.{no-false}
use Rattle.ax_space.proofs.Slices.{item-is}
use Rattle.ax_space.proofs.Rising.{risen-none, risen-more, risen-all, risen-false}
use Rattle.ax_space.proofs.choosing.are_rising.Goals as goal

pub loop-id-init : goal.loop-id-init
loop-id-init c = risen-none

pub loop-id-preserved : goal.loop-id-preserved
loop-id-preserved c =
    risen-more c.args.chosen.now c.loop-id.id-index c.loop-id.least (get_or c.args.chosen.now c.loop-id.id-index (record { 0 = 0 })) c.loop-id-test.true
    (item-is c.args.chosen.now c.loop-id.id-index (record { 0 = 0 }) c.loop-id-test.true) c.if-id-least.false c.loop-id.invariant

pub returns-then-id-least : goal.returns-then-id-least
returns-then-id-least c = (
  (λ h. absurd (no-false h)),
  (λ all. absurd (risen-false c.args.chosen.now c.loop-id.id-index c.loop-id.least (get_or c.args.chosen.now c.loop-id.id-index (record { 0 = 0 })) c.loop-id-test.true
      (item-is c.args.chosen.now c.loop-id.id-index (record { 0 = 0 }) c.loop-id-test.true) c.if-id-least.true c.loop-id.invariant all)),
)

pub returns : goal.returns
returns c = ((λ h. risen-all c.args.chosen.now c.loop-id.id-index c.loop-id.least c.loop-id-test.false c.loop-id.invariant), (λ all. refl))
