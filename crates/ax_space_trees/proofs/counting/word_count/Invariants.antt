use Rattle.std.proofs.Common.{◌≡◌}
use Rattle.ax_space_trees.specs.Sizes.{words}
use Rattle.ax_space_trees.proofs.counting.word_count.Given as goal

abbrev pub invariant-loop-at : goal.invariant-loop-at
invariant-loop-at l = l.count ≡ words l.at
