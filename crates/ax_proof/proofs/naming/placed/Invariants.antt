use Rattle.std.proofs.Common.{◌≡◌, length, take}
use Rattle.ax_proof.specs.Literal.{IsBelow}
use Rattle.ax_proof.specs.Naming.{renamed, name_at}
use Rattle.ax_proof.proofs.naming.placed.Given as goal

abbrev pub invariant-loop-lit : goal.invariant-loop-lit
invariant-loop-lit l = record {
  same : take l.lit-index l.lit-items ≡ renamed (name_at l.names) l.lits.items;
  below : IsBelow (length l.names) l.lits.items;
}
