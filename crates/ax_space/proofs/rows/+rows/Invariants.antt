use Rattle.std.proofs.Common.{length}
use Rattle.ax_space.proofs.rows.+rows.Given as goal

abbrev pub decreases-rows : goal.decreases-rows
decreases-rows l = length l.slots.now
