use Rattle.std.proofs.Common.{ℕ, ◌≡◌, ◌≤◌, ◌<◌, ◌^◌, ◌-◌, drop, length}
use Rattle.ax_proof.specs.Assignment.{assigned}
use Rattle.ax_gates.specs.Words.{word_value}
use Rattle.ax_blast.proofs.valuation.word.Given as goal

abbrev pub invariant-loop-at : goal.invariant-loop-at
invariant-loop-at l = record {
  at : l.at ≤ length l.lits;
  bits : l.bits ≡ word_value (assigned l.model.bits.items) (drop l.at l.lits);
}

abbrev pub decreases-loop-at : goal.decreases-loop-at
decreases-loop-at l = l.at
