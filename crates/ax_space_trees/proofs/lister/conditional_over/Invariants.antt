use Rattle.std.proofs.Common.{◌≡◌, take, map}
use Rattle.std.specs.List.{flat_map, filter}
use Rattle.ax_space_trees.specs.Listed.{within, with_three}
use Rattle.ax_space_trees.proofs.lister.conditional_over.Given as goal

abbrev pub invariant-loop-second : goal.invariant-loop-second
invariant-loop-second l = l.all ≡ filter (within l.budget) (flat_map (λ y. map (with_three l.cost l.first y) l.thirds) (take l.second-index l.seconds))
