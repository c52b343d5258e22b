use Rattle.std.proofs.Common.{take, None}
use Rattle.ax_space_trees.specs.Region.{IsChoices}
use Rattle.ax_space_trees.proofs.region.new_choices.Given as goal

abbrev pub invariant-loop-label : goal.invariant-loop-label
invariant-loop-label l = IsChoices (take l.label-index l.labels) None l.all
