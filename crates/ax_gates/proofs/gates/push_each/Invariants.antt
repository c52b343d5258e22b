use Rattle.std.proofs.Common.{◌≡◌, ◌++◌, drop}
use Rattle.ax_proof.specs.Runs.{Begins}
use Rattle.ax_gates.specs.Gates.{as_clauses, each_not}
use Rattle.ax_gates.proofs.gates.push_each.Given as goal

abbrev pub invariant-loop-x : goal.invariant-loop-x
invariant-loop-x l = record {
  clauses : l.clauses.items ++ as_clauses (each_not l.z (drop l.x-index l.xs)) ≡ l.fn.clauses.items ++ as_clauses (each_not l.z l.xs);
  begins : Begins l.fn.clauses.items l.clauses.items;
}
