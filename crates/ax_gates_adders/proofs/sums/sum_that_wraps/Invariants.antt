use Rattle.std.proofs.Common.{◌≡◌, ◌+◌, ◌*◌, ◌++◌, drop}
use Rattle.ax_proof.specs.Runs.{Begins}
use Rattle.ax_gates.specs.Gates.{blocks}
use Rattle.ax_gates_adders.specs.Adders.{wrap_gates, wrap_outs}
use Rattle.ax_gates_adders.proofs.sums.sum_that_wraps.Given as goal

abbrev pub invariant-loop-i : goal.invariant-loop-i
invariant-loop-i l = record {
  vars : l.cnf.vars ≡ l.initial.cnf.vars + 2 * l.i;
  clauses : l.cnf.clauses.items ++ blocks l.cnf.vars (wrap_gates l.cnf.vars (drop l.i l.a) (drop l.i l.b) l.carry) ≡ l.initial.cnf.clauses.items ++ blocks l.initial.cnf.vars (wrap_gates l.initial.cnf.vars l.a l.b l.initial.carry);
  outs : l.outs.items ++ wrap_outs l.cnf.vars (drop l.i l.a) ≡ wrap_outs l.initial.cnf.vars l.a;
  begins : Begins l.initial.cnf.clauses.items l.cnf.clauses.items;
}
