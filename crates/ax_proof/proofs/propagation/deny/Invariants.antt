use Rattle.std.proofs.Common.{◌≡◌, map, take}
use Rattle.ax_proof.specs.Literal.{negation}
use Rattle.ax_proof.proofs.propagation.deny.Given as goal

abbrev pub invariant-loop-lit : goal.invariant-loop-lit
invariant-loop-lit l = record {
  lits : l.trail.lits ≡ map negation (take l.lit-index l.line);
  size : l.trail.size ≡ l.initial.trail.size;
}
