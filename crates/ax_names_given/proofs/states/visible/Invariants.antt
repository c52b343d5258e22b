use Rattle.std.proofs.Common.{◌≡◌, ◌++◌, length}
use Rattle.ax_names_rules.specs.States.{visible}
use Rattle.ax_names_given.proofs.states.visible.Given as goal

abbrev pub invariant-loop-rest : goal.invariant-loop-rest
invariant-loop-rest l = l.ids ++ visible l.rest ≡ visible l.names

abbrev pub decreases-loop-rest : goal.decreases-loop-rest
decreases-loop-rest l = length l.rest
