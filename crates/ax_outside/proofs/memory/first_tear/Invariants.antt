use Rattle.std.proofs.Common.{◌≡◌, length}
use Rattle.ax_outside.specs.Memory.{torn_at}
use Rattle.ax_outside.proofs.memory.first_tear.Given as goal

abbrev pub invariant-loop-rest : goal.invariant-loop-rest
invariant-loop-rest l = torn_at l.rest l.call ≡ torn_at l.fn.tears l.call

abbrev pub decreases-loop-rest : goal.decreases-loop-rest
decreases-loop-rest l = length l.rest
