use Rattle.std.proofs.Common.{ℕ, ◌<◌, [], slice_index_or, length}
use Rattle.ax_proof.specs.Assignment.{assigned}
use Rattle.ax_term.specs.Valuation.{interpretation_of}
use Rattle.ax_term.specs.Order.{tree_at}
use Rattle.ax_blast.specs.Blasting.{Reads}
use Rattle.ax_blast.specs.Table.{table_of}
use Rattle.ax_blast.proofs.valuation.model_to_valuation.Given as goal

abbrev pub invariant-loop-number : goal.invariant-loop-number
invariant-loop-number l = record {
  reads : (n : ℕ) → n < l.number → Reads (interpretation_of l.valuation) (assigned l.model.bits.items) (tree_at l.bank n) (slice_index_or (table_of l.blasted.places.items) n []);
}
