use Rattle.std.proofs.Common.{◌≤◌, ◌+◌, ◌*◌, drop, length}
use Rattle.ax_term.specs.Order.{trees_at, AllBelow}
use Rattle.ax_blast.specs.Table.{table_of}
use Rattle.ax_blast.proofs.Tables.{Underway}
use Rattle.ax_blast.proofs.blasted.blasted_terms.Given as goal

abbrev pub invariant-loop-number : goal.invariant-loop-number
invariant-loop-number l = record {
  under : Underway l.bank (trees_at l.bank l.order) (trees_at l.bank (drop l.number-index l.order)) l.cnf.clauses.items l.cnf.vars (table_of l.places.items);
  below : AllBelow (length l.bank) (drop l.number-index l.order);
  vars : l.cnf.vars ≤ 8192 * l.number-index + 1;
}
