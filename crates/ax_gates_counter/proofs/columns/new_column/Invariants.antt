use Rattle.std.proofs.Common.{◌≡◌, ◌+◌, ◌++◌, drop, length}
use Rattle.ax_gates.specs.Words.{fresh}
use Rattle.ax_gates_counter.proofs.columns.new_column.Given as goal

abbrev pub invariant-loop-input : goal.invariant-loop-input
invariant-loop-input l = record {
  vars : l.cnf.vars ≡ l.initial.cnf.vars + l._input-index;
  width : length l.column.items ≡ l._input-index;
  clauses : l.cnf.clauses ≡ l.initial.cnf.clauses;
  outs : l.column.items ++ fresh l.cnf.vars (drop l._input-index l.inputs) ≡ fresh l.initial.cnf.vars l.inputs;
}
