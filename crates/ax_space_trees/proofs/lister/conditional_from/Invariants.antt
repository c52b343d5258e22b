use Rattle.std.proofs.Common.{◌≡◌, take, map}
use Rattle.std.specs.List.{filter}
use Rattle.ax_space_trees.specs.Listed.{within, with_three}
use Rattle.ax_space_trees.proofs.lister.conditional_from.Given as goal

abbrev pub invariant-loop-third : goal.invariant-loop-third
invariant-loop-third l = l.all ≡ filter (within l.budget) (map (with_three l.cost l.first l.second) (take l.third-index l.thirds))
