use Rattle.std.proofs.Common.{◌≡◌, ◌++◌, drop}
use Rattle.ax_gates.specs.Gates.{as_clauses}
use Rattle.ax_blast.specs.Blasting.{units}
use Rattle.ax_blast.proofs.blasted.push_units.Given as goal

abbrev pub invariant-loop-lit : goal.invariant-loop-lit
invariant-loop-lit l = record {
  clauses : l.clauses.items ++ as_clauses (units (drop l.lit-index l.lits)) ≡ l.initial.clauses.items ++ as_clauses (units l.lits);
}
