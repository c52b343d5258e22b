use Rattle.std.proofs.Common.{◌≡◌, take, map}
use Rattle.std.specs.List.{filter}
use Rattle.ax_space_trees.specs.Listed.{within, with_two}
use Rattle.ax_space_trees.proofs.lister.binary_from.Given as goal

abbrev pub invariant-loop-second : goal.invariant-loop-second
invariant-loop-second l = l.all ≡ filter (within l.budget) (map (with_two l.op l.cost l.first) (take l.second-index l.seconds))
