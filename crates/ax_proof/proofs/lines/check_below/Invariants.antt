use Rattle.std.proofs.Common.{ℕ, ◌≡◌, ◌<◌, ◌++◌, [], take}
use Rattle.ax_proof.specs.Propagation.{HasRup}
use Rattle.ax_proof.specs.Lines.{line_at}
use Rattle.ax_proof.proofs.lines.check_below.Given as goal

abbrev pub invariant-loop-at : goal.invariant-loop-at
invariant-loop-at l = record {
  lawful : (k : ℕ) → k < l.at → HasRup (l.clauses ++ take k l.lines) (line_at l.lines k);
  empty : l.trail.lits ≡ [];
  size : l.trail.size ≡ l.initial.trail.size;
}
