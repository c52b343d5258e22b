use Rattle.std.proofs.Common.{◌≡◌, ◌++◌, drop}
use Rattle.ax_proof.specs.Runs.{Begins}
use Rattle.ax_gates.specs.Gates.{as_clauses}
use Rattle.ax_gates.proofs.append.push_clauses.Given as goal

abbrev pub invariant-loop-row : goal.invariant-loop-row
invariant-loop-row g l = record {
  clauses : l.clauses.items ++ as_clauses (drop l.row-index l.rows) ≡ l.fn.clauses.items ++ as_clauses l.rows;
  begins : Begins l.fn.clauses.items l.clauses.items;
}
