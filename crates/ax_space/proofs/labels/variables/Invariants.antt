use Rattle.std.proofs.Common.{take, []}
use Rattle.ax_space.specs.Labels.{IsCollected}
use Rattle.ax_space.proofs.labels.variables.Given as goal

abbrev pub invariant-loop-id : goal.invariant-loop-id
invariant-loop-id l = IsCollected (take l.id-index l.scope) [] l.all
