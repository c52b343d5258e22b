use Rattle.std.proofs.Common.{◌≡◌, ◌+◌, ◌*◌, ◌-◌, ◌++◌, length}
use Rattle.ax_proof.specs.Runs.{Begins}
use Rattle.ax_gates.specs.Gates.{as_clauses}
use Rattle.ax_gates_counter.specs.Counter.{later_columns}
use Rattle.ax_gates_counter.proofs.counter.push_later_columns.Given as goal

abbrev pub invariant-loop : goal.invariant-loop
invariant-loop l = record {
  vars : l.cnf.vars ≡ l.initial.cnf.vars + length l.inputs * l.counter;
  width : length l.column.items ≡ length l.inputs;
  clauses : l.cnf.clauses.items ++ as_clauses (later_columns l.cnf.vars l.inputs (l.more - l.counter) l.column.items) ≡ l.initial.cnf.clauses.items ++ as_clauses (later_columns l.initial.cnf.vars l.inputs l.more l.initial.column.items);
  begins : Begins l.initial.cnf.clauses.items l.cnf.clauses.items;
}
