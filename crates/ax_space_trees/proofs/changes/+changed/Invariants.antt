use Rattle.ax_prog.specs.Nodes.{nodes}
use Rattle.ax_space_trees.proofs.changes.+changed.Given as goal

abbrev pub decreases-changed : goal.decreases-changed
decreases-changed l = nodes l.new.now
