use Rattle.std.proofs.Common.{◌+◌, ◌≤◌, take}
use Rattle.ax_proof.specs.Uses.{numbered}
use Rattle.ax_proof.proofs.Judgements.{IsFalseBut}
use Rattle.ax_proof.proofs.right.judge_shown.Given as goal

abbrev pub invariant-loop-place : goal.invariant-loop-place
invariant-loop-place g l = record {
  seen : IsFalseBut l.known (take l.place (numbered (g.S.Shown.clauses l.shown) l.number)) l.unit;
  steps : l.steps ≤ l.initial.steps + l.place;
}
