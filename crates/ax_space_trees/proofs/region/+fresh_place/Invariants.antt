use Rattle.ax_space_trees.proofs.region.+fresh_place.Given as goal

abbrev pub decreases-fresh_place : goal.decreases-fresh_place
decreases-fresh_place l = l.room
