use Rattle.ax_least.specs.Least.{PassesWithin}
use Rattle.ax_repair.proofs.Tried.{one-more, whole-true}
use Rattle.ax_repair.proofs.trying.passes_all.Goals as goal

pub loop-test-preserved : goal.loop-test-preserved
loop-test-preserved c =
    one-more (PassesWithin c.args.flow.now.program c.args.bounds.now c.args.chosen.now) c.args.tests.now c.loop-test.test-index c.test-item.result c.loop-test-test.true c.test-item.is c.loop-test.invariant
    (c.in_ok-passes_within.ensures.0 c.if-not-branch.false)

pub returns : goal.returns
returns c = whole-true (PassesWithin c.args.flow.now.program c.args.bounds.now c.args.chosen.now) c.args.tests.now c.loop-test.test-index c.loop-test-test.false c.loop-test.invariant
