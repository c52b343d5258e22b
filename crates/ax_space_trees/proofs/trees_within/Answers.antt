use Rattle.ax_space_trees.proofs.Spaces.{lists-within}
use Rattle.ax_space_trees.proofs.trees_within.Goals as goal

pub returns : goal.returns
returns c = lists-within _ _ _ _ _ _ c.in_ok-place.ensures.region c.in_ok-all.ensures
