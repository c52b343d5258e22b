use Rattle.std.proofs.Common.{◌≡◌, take, ◌∷◌}
use Rattle.ax_space.proofs.rows.with_first.Given as goal

abbrev pub invariant-loop-tree : goal.invariant-loop-tree
invariant-loop-tree l = l.all ≡ l.first ∷ take l.tree-index l.rest
