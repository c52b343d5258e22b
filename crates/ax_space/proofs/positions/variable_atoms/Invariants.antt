use Rattle.std.proofs.Common.{◌≡◌, take, map}
use Rattle.ax_space.specs.Labels.{variable}
use Rattle.ax_space.proofs.positions.variable_atoms.Given as goal

abbrev pub invariant-loop-id : goal.invariant-loop-id
invariant-loop-id l = l.all ≡ map variable (take l.id-index l.scope)
