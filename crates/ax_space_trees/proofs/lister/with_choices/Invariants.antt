use Rattle.std.proofs.Common.{◌≡◌, take}
use Rattle.std.specs.List.{flat_map, filter}
use Rattle.ax_space_trees.specs.Listed.{within, of_choice}
use Rattle.ax_space_trees.proofs.lister.with_choices.Given as goal

abbrev pub invariant-loop-choice : goal.invariant-loop-choice
invariant-loop-choice l = l.all ≡ filter (within l.budget) (flat_map (of_choice l.firsts l.seconds l.thirds) (take l.choice-index l.choices))
