use Rattle.std.proofs.Common.{◌≡◌, ◌+◌, ◌≤◌, map, take}
use Rattle.ax_proof.specs.Literal.{negation}
use Rattle.ax_proof.specs.Uses.{numbered}
use Rattle.ax_proof.proofs.right.deny_shown.Given as goal

abbrev pub invariant-loop-place : goal.invariant-loop-place
invariant-loop-place g l = record {
  lits : l.known ≡ map negation (take l.place (numbered (g.S.Shown.clauses l.shown) l.number));
  steps : l.steps ≤ l.initial.steps + l.place;
}
