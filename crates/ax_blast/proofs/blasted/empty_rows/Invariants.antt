use Rattle.std.proofs.Common.{◌≡◌, [], replicate}
use Rattle.ax_blast.specs.Table.{table_of}
use Rattle.ax_blast.proofs.blasted.empty_rows.Given as goal

abbrev pub invariant-loop : goal.invariant-loop
invariant-loop l = record {
  rows : table_of l.rows.items ≡ replicate l.counter [];
}
