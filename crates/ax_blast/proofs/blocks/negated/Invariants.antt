use Rattle.std.proofs.Common.{◌≡◌, ◌++◌, drop, map, length}
use Rattle.ax_proof.specs.Literal.{negation}
use Rattle.ax_blast.proofs.blocks.negated.Given as goal

abbrev pub invariant-loop-lit : goal.invariant-loop-lit
invariant-loop-lit l = record {
  items : l.bits.items ++ map negation (drop l.lit-index l.word) ≡ map negation l.word;
  width : length l.bits.items ≡ l.lit-index;
}
