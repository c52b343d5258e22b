use Rattle.std.proofs.Common.{◌≡◌, take, map}
use Rattle.std.specs.List.{filter}
use Rattle.ax_space_trees.specs.Listed.{within, with_one}
use Rattle.ax_space_trees.proofs.lister.unary.Given as goal

abbrev pub invariant-loop-first : goal.invariant-loop-first
invariant-loop-first l = l.all ≡ filter (within l.budget) (map (with_one l.op l.cost) (take l.first-index l.firsts))
