use Rattle.std.proofs.Common.{◌≡◌, ◌++◌, take}
use Rattle.ax_sat.proofs.search.load.Given as goal

abbrev pub invariant-loop-clause : goal.invariant-loop-clause
invariant-loop-clause l = record {
  clauses : l.watch.clauses ≡ l.initial.watch.clauses ++ take l.clause-index l.clauses;
  vars : l.watch.vars ≡ l.initial.watch.vars;
  trail : l.watch.trail ≡ l.initial.watch.trail;
}
