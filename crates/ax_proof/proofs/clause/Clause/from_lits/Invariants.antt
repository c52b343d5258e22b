use Rattle.std.proofs.Common.{take}
use Rattle.ax_proof.specs.Clause.{IsClause, SameLiterals}
use Rattle.ax_proof.proofs.clause.Clause.from_lits.Given as goal

abbrev pub invariant-loop-lit : goal.invariant-loop-lit
invariant-loop-lit l = record {
  rising : IsClause l.clause;
  same : SameLiterals (take l.lit-index l.lit-items) l.clause;
}
