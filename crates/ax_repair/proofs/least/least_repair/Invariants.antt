use Rattle.std.proofs.Common.{ℕ, ◌<◌}
use Rattle.ax_repair.specs.Search.{NoRepairOfCost}
use Rattle.ax_repair.proofs.least.least_repair.Given as goal

-- no repair costs less
abbrev pub invariant-loop-cost : goal.invariant-loop-cost
invariant-loop-cost l = (k : ℕ) → k < l.cost → NoRepairOfCost l.program l.tests l.bounds l.space k
