use Rattle.std.proofs.Common.{length}
use Rattle.ax_space.proofs.sums.+sum_of_changes.Given as goal

abbrev pub decreases-sum_of_changes : goal.decreases-sum_of_changes
decreases-sum_of_changes l = length l.slots.now
