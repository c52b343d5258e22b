use Rattle.std.proofs.Common.{◌≡◌, ◌≤◌, length}
use Rattle.ax_sat_policy.proofs.Choosing.{AreDone}
use Rattle.ax_sat_policy.proofs.choice.choose.Given as goal

abbrev pub invariant-loop-at : goal.invariant-loop-at
invariant-loop-at l = record {
  within : l.at ≤ length l.watch.clauses;
  size : length l.kept.items ≡ length l.watch.clauses;
  done : AreDone l.watch.clauses l.kept.items l.at;
}
