use Rattle.std.proofs.Common.{◌≡◌, ◌+◌, ◌++◌, drop}
use Rattle.ax_proof.specs.Runs.{Begins}
use Rattle.ax_gates.specs.Gates.{blocks}
use Rattle.ax_gates.specs.Words.{fresh}
use Rattle.ax_gates_multiplier.specs.Products.{row_gates}
use Rattle.ax_gates_multiplier.proofs.products.row.Given as goal

abbrev pub invariant-loop-i : goal.invariant-loop-i
invariant-loop-i l = record {
  vars : l.cnf.vars ≡ l.initial.cnf.vars + l.i;
  clauses : l.cnf.clauses.items ++ blocks l.cnf.vars (row_gates (drop l.i l.a) l.b) ≡ l.initial.cnf.clauses.items ++ blocks l.initial.cnf.vars (row_gates l.a l.b);
  bits : l.bits.items ++ fresh l.cnf.vars (drop l.i l.a) ≡ fresh l.initial.cnf.vars l.a;
  begins : Begins l.initial.cnf.clauses.items l.cnf.clauses.items;
}
