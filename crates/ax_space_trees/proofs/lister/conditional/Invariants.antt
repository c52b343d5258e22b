use Rattle.std.proofs.Common.{◌≡◌, take, map}
use Rattle.std.specs.List.{flat_map, filter}
use Rattle.ax_space_trees.specs.Listed.{within, with_three}
use Rattle.ax_space_trees.proofs.lister.conditional.Given as goal

abbrev pub invariant-loop-first : goal.invariant-loop-first
invariant-loop-first l = l.all ≡ filter (within l.budget) (flat_map (λ x. flat_map (λ y. map (with_three l.cost x y) l.thirds) l.seconds) (take l.first-index l.firsts))
