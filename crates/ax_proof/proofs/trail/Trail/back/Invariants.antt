use Rattle.std.proofs.Common.{◌≡◌, ◌≤◌, length, take}
use Rattle.ax_proof.proofs.trail.Trail.back.Given as goal

abbrev pub invariant-loop-self : goal.invariant-loop-self
invariant-loop-self l = record {
  size : l.self.size ≡ l.initial.self.size;
  lits : l.self.lits ≡ take (length l.self.lits) l.initial.self.lits;
  reasons : l.self.reasons ≡ take (length l.self.reasons) l.initial.self.reasons;
  low : l.len ≤ length l.self.lits;
}

abbrev pub decreases-loop-self : goal.decreases-loop-self
decreases-loop-self l = length l.self.lits
