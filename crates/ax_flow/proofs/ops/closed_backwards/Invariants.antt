use Rattle.std.proofs.Common.{◌≡◌, ◌++◌, map, reverse, length}
use Rattle.ax_flow.specs.Drafts.{closed}
use Rattle.ax_flow.proofs.ops.closed_backwards.Given as goal

abbrev pub invariant-drafts : goal.invariant-drafts
invariant-drafts l = l.ops ++ reverse (map (closed l.end) l.left) ≡ reverse (map (closed l.end) l.fn.drafts)

abbrev pub decreases-drafts : goal.decreases-drafts
decreases-drafts l = length l.left
