use Rattle.std.proofs.Common.{ℕ, ◌≡◌, ◌+◌, ◌-◌, ◌<◌, ◌≤◌, ◌++◌, [], take, drop}
use Rattle.ax_proof.specs.Lines.{line_at}
use Rattle.ax_proof.specs.Uses.{IsRight, uses_at, lists, all_named_literals}
use Rattle.ax_proof.proofs.right.check_uses.Given as goal

abbrev pub invariant-loop-at : goal.invariant-loop-at
invariant-loop-at g l = record {
  empty : l.known ≡ [];
  right :
      (k : ℕ) → k < l.at
      → IsRight (take (l.from - 1) (g.S.Shown.clauses l.shown) ++ take k (drop (l.from - 1) (g.S.Shown.clauses l.shown)))
      (line_at (drop (l.from - 1) (g.S.Shown.clauses l.shown)) k) (uses_at (lists l.uses) k);
  steps :
      l.steps + all_named_literals (g.S.Shown.clauses l.shown) (l.from + l.at) (drop l.at (lists l.uses))
      ≤ l.initial.steps + all_named_literals (g.S.Shown.clauses l.shown) l.from (lists l.uses);
}
