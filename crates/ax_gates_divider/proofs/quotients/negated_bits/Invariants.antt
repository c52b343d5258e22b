use Rattle.std.proofs.Common.{◌≡◌, ◌++◌, drop, map}
use Rattle.ax_proof.specs.Literal.{negation}
use Rattle.ax_gates_divider.proofs.quotients.negated_bits.Given as goal

abbrev pub invariant-loop-lit : goal.invariant-loop-lit
invariant-loop-lit l = l.minus.items ++ map negation (drop l.lit-index l.b) ≡ map negation l.b
