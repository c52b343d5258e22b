use Rattle.std.proofs.Common.{◌≡◌, ◌≤◌, ◌++◌, length}
use Rattle.ax_proof.proofs.Markings.{Explains}
use Rattle.ax_proof.proofs.uses.explain.Given as goal

abbrev pub invariant-loop-place : goal.invariant-loop-place
invariant-loop-place l = record {
  low : l.from ≤ l.place;
  size : length l.marks ≡ length l.fn.marks;
  explains : Explains (l.clauses ++ l.lines) l.trail.lits l.place l.marks l.uses.items;
}
