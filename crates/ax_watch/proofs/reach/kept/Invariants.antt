use Rattle.std.proofs.Common.{◌≤◌, length}
use Rattle.ax_watch.proofs.reach.kept.Given as goal

abbrev pub invariant-loop-count : goal.invariant-loop-count
invariant-loop-count l = l.count ≤ length l.lens

abbrev pub decreases-loop-count : goal.decreases-loop-count
decreases-loop-count l = l.count
