use Rattle.std.proofs.Common.{◌≡◌, ◌-◌, length}
use Rattle.ax_proof.specs.Runs.{GoesOn}
use Rattle.ax_watch.proofs.scan.scan.Given as goal

abbrev pub invariant-sweeps : goal.invariant-sweeps
invariant-sweeps l = record {
  goes_on : GoesOn l.store.clauses l.initial.trail l.trail;
  known : l.known ≡ length l.trail.lits;
}

abbrev pub decreases-sweeps : goal.decreases-sweeps
decreases-sweeps l = l.trail.size - length l.trail.lits
