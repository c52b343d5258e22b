use Rattle.std.proofs.Common.{◌≡◌, take, map}
use Rattle.std.specs.List.{filter}
use Rattle.ax_space.specs.Labels.{has_operator, operator_label}
use Rattle.ax_space.proofs.labels.chosen_among.Given as goal

abbrev pub invariant-loop-operator : goal.invariant-loop-operator
invariant-loop-operator l = l.all ≡ map operator_label (filter (has_operator l.sets) (take l.operator-index l.operators))
