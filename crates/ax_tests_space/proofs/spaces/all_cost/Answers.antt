use Rattle.std.proofs.Common.{sym}
use Rattle.ax_space.proofs.Costs.{costed-is-patch}
use Rattle.ax_tests_space.proofs.spaces.all_cost.Goals as goal

pub cost-requires-clause-patch : goal.cost-requires-clause-patch
cost-requires-clause-patch c =
    costed-is-patch c.args.space.now c.patch-item.result c.args.cost (c.requires.patches c.patch-item.result (c.loop-patch.patch-index, c.loop-patch-test.true, sym c.patch-item.is))
