use Rattle.std.proofs.Common.{take}
use Rattle.std.specs.List.{All}
use Rattle.ax_proof.specs.Trail.{IsSatisfied}
use Rattle.ax_proof.specs.Runs.{GoesOn}
use Rattle.ax_watch.specs.Watch.{clause_of}
use Rattle.ax_watch.proofs.watched.settle.Given as goal

abbrev pub invariant-loop-place : goal.invariant-loop-place
invariant-loop-place l = record {
  goes_on : GoesOn l.store.clauses l.fn.trail l.trail;
  settled : All (λ place. IsSatisfied l.trail.lits (clause_of l.store.clauses place)) (take l.place-index l.short);
}
