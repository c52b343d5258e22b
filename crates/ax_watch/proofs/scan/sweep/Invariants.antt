use Rattle.std.proofs.Common.{◌≡◌, length, take}
use Rattle.std.specs.List.{All}
use Rattle.ax_proof.specs.Trail.{IsSettled}
use Rattle.ax_proof.specs.Runs.{GoesOn}
use Rattle.ax_watch.proofs.scan.sweep.Given as goal

abbrev pub invariant-loop-place : goal.invariant-loop-place
invariant-loop-place l = record {
  goes_on : GoesOn l.store.clauses l.initial.trail l.trail;
  settled : length l.trail.lits ≡ length l.initial.trail.lits → All (IsSettled l.trail.lits) (take l.place l.store.clauses);
}
