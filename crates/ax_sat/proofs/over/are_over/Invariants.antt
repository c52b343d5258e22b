use Rattle.std.proofs.Common.{take}
use Rattle.std.specs.List.{All}
use Rattle.ax_proof.specs.Literal.{IsOver}
use Rattle.ax_sat.proofs.over.are_over.Given as goal

abbrev pub invariant-loop-clause : goal.invariant-loop-clause
invariant-loop-clause l = All (IsOver l.vars) (take l.clause-index l.clauses)
