use Rattle.std.proofs.Common.{ℕ, ◌≡◌, ◌<◌, ◌++◌, [], length, take}
use Rattle.ax_proof.specs.Lines.{line_at}
use Rattle.ax_proof.specs.Uses.{IsRight, uses_at, lists}
use Rattle.ax_proof.proofs.uses.uses_below.Given as goal

abbrev pub invariant-loop-at : goal.invariant-loop-at
invariant-loop-at l = record {
  count : length l.all.items ≡ l.at;
  right : (k : ℕ) → k < l.at → IsRight (l.clauses ++ take k l.lines) (line_at l.lines k) (uses_at (lists l.all.items) k);
  empty : l.trail.lits ≡ [];
  size : l.trail.size ≡ l.initial.trail.size;
  marks : length l.marks ≡ l.size;
}
