use Rattle.std.proofs.Common.{◌≡◌, ◌++◌, reverse, length}
use Rattle.ax_flow.proofs.ops.turned.Given as goal

abbrev pub invariant-ops : goal.invariant-ops
invariant-ops l = l.all ++ reverse l.left ≡ reverse l.fn.ops

abbrev pub decreases-ops : goal.decreases-ops
decreases-ops l = length l.left
