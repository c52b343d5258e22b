use Rattle.std.proofs.Common.{take}
use Rattle.ax_proof.specs.Literal.{IsOver}
use Rattle.ax_sat.proofs.over.is_over.Given as goal

abbrev pub invariant-loop-lit : goal.invariant-loop-lit
invariant-loop-lit l = IsOver l.vars (take l.lit-index l.lits)
