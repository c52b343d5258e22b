use Rattle.std.proofs.Common.{◌≡◌, ◌+◌, ◌++◌, length}
use Rattle.ax_sat_policy.specs.Core.{IsCore}
use Rattle.ax_sat.specs.Levels.{Stands, Asks}
use Rattle.ax_sat.specs.Search.{Logs}
use Rattle.ax_sat.proofs.search.learn_lines.Given as goal

abbrev pub invariant-loop : goal.invariant-loop
invariant-loop l = record {
  vars : l.watch.vars ≡ l.fn.watch.vars;
  core : IsCore l.watch.clauses (l.clauses ++ l.log.lines.items);
  size : length l.marks.on ≡ l.fn.watch.vars + 1;
  stands : Stands l.watch.clauses l.watch.trail l.watch.reasons l.levels.starts.items;
  asks : Asks l.assumptions l.watch.trail l.levels.starts.items l.levels.roots l.levels.asked;
  log : Logs l.clauses l.assumptions l.fn.watch.vars l.fn.log.lines.items l.log.lines.items l.counter;
}
