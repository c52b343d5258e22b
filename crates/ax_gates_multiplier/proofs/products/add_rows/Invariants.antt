use Rattle.std.proofs.Common.{◌≡◌, ◌+◌, ◌-◌, ◌++◌, length, drop}
use Rattle.ax_proof.specs.Runs.{Begins}
use Rattle.ax_gates.specs.Gates.{blocks}
use Rattle.ax_gates_multiplier.specs.Products.{rows_gates, rows_outs, rows_vars}
use Rattle.ax_gates_multiplier.proofs.products.add_rows.Given as goal

abbrev pub invariant-loop-i : goal.invariant-loop-i
invariant-loop-i l = record {
  bits : length l.total.items + l.i ≡ length l.b + 1;
  vars : l.cnf.vars + rows_vars (length l.b - l.i) ≡ l.initial.cnf.vars + rows_vars (length l.b);
  clauses : l.cnf.clauses.items ++ blocks l.cnf.vars (rows_gates l.cnf.vars l.a (drop l.i l.b) l.total.items) ≡ l.initial.cnf.clauses.items ++ blocks l.initial.cnf.vars (rows_gates l.initial.cnf.vars l.a l.b l.initial.total.items);
  outs : l.outs.items ++ rows_outs l.cnf.vars (drop l.i l.b) l.total.items ≡ rows_outs l.initial.cnf.vars l.b l.initial.total.items;
  begins : Begins l.initial.cnf.clauses.items l.cnf.clauses.items;
}
