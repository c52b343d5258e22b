use Rattle.std.proofs.Common.{◌<◌, ◌≢◌, length}
use Rattle.ax_watch.proofs.pairs.longest.Given as goal

abbrev pub invariant-loop-at : goal.invariant-loop-at
invariant-loop-at l = record {
  first : l.two.first < length l.clause;
  second : l.two.second < length l.clause;
  first_before : l.two.first < l.at;
  second_before : l.two.second < l.at;
  differ : l.two.first ≢ l.two.second;
}
