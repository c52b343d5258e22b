use Rattle.std.proofs.Common.{◌↔◌, ◌+◌, ◌-◌, ◌≤◌, take, drop}
use Rattle.ax_proof.specs.Uses.{Refutes, named_literals}
use Rattle.ax_proof.proofs.right.refutes.Given as goal

abbrev pub invariant-loop-number : goal.invariant-loop-number
invariant-loop-number g l = record {
  same :
      Refutes (take (l.limit - 1) (g.S.Shown.clauses l.shown)) l.initial.known l.uses
      ↔ Refutes (take (l.limit - 1) (g.S.Shown.clauses l.shown)) l.known (drop l.number-index l.uses);
  steps :
      l.steps + named_literals (g.S.Shown.clauses l.shown) (drop l.number-index l.uses)
      ≤ l.initial.steps + named_literals (g.S.Shown.clauses l.shown) l.uses;
}
