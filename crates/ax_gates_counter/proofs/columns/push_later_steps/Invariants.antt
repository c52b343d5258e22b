use Rattle.std.proofs.Common.{◌≡◌, ◌++◌, drop}
use Rattle.ax_proof.specs.Runs.{Begins}
use Rattle.ax_gates.specs.Gates.{as_clauses}
use Rattle.ax_gates_counter.specs.Counter.{later_steps}
use Rattle.ax_gates_counter.proofs.columns.push_later_steps.Given as goal

abbrev pub invariant-loop-i : goal.invariant-loop-i
invariant-loop-i l = record {
  clauses : l.clauses.items ++ as_clauses (later_steps l.before l.beside (drop l.i l.inputs) (drop l.i l.previous) (drop l.i l.column)) ≡ l.initial.clauses.items ++ as_clauses (later_steps l.initial.before l.initial.beside l.inputs l.previous l.column);
  begins : Begins l.initial.clauses.items l.clauses.items;
}
