use Rattle.std.proofs.Common.{length}
use Rattle.ax_space.proofs.words.+part_at.Given as goal

abbrev pub decreases-part_at : goal.decreases-part_at
decreases-part_at l = length l.word.now
