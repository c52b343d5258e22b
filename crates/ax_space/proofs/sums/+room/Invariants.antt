use Rattle.std.proofs.Common.{length}
use Rattle.ax_space.proofs.sums.+room.Given as goal

abbrev pub decreases-room : goal.decreases-room
decreases-room l = length l.slots.now
