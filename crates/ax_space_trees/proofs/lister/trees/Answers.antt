use Rattle.ax_space_trees.proofs.Nodes.{lists}
use Rattle.ax_space_trees.proofs.lister.trees.Goals as goal

pub returns : goal.returns
returns c = rw c.in_ok-all.ensures (lists c.args.budget c.args.place.now c.requires)
