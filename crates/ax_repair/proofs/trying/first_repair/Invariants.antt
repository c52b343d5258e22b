use Rattle.std.proofs.Common.{take}
use Rattle.ax_repair.specs.Search.{NoneRepairs}
use Rattle.ax_repair.proofs.trying.first_repair.Given as goal

abbrev pub invariant-loop-at : goal.invariant-loop-at
invariant-loop-at l = NoneRepairs l.program l.tests l.bounds l.space (take l.at l.patches)
