use Rattle.std.proofs.Common.{None, take}
use Rattle.ax_space_trees.proofs.RegionSteps.{start-none, step-new, none-some, not-earlier, more-labels}
use Rattle.ax_space_trees.proofs.region.new_choices.Goals as goal

pub loop-label-init : goal.loop-label-init
loop-label-init c = rw c.new-all.ensures start-none

pub loop-label-preserved : goal.loop-label-preserved
loop-label-preserved c =
    rw (c.in_ok-push.ensures.ok, c.in_ok-copy.ensures)
    (more-labels c.args.labels.now c.loop-label.label-index c.label-item.result None _ c.loop-label-test.true c.label-item.is
    (step-new (take c.loop-label.label-index c.args.labels.now) None c.loop-label.all c.label-item.result none-some
    (not-earlier c.args.labels.now c.loop-label.label-index c.label-item.result c.requires c.loop-label-test.true c.label-item.is) c.loop-label.invariant))
