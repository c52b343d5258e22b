use Rattle.std.proofs.Common.{◌≡◌, ◌+◌, ◌-◌, length}
use Rattle.ax_sat.specs.Levels.{Stands, Asks}
use Rattle.ax_sat.proofs.descent.descend.Given as goal

abbrev pub invariant-decisions : goal.invariant-decisions
invariant-decisions l = record {
  kept : l.watch ≡ record l.fn.watch { trail = l.watch.trail; reasons = l.watch.reasons };
  marks : l.marks ≡ l.fn.marks;
  stands : Stands l.watch.clauses l.watch.trail l.watch.reasons l.levels.starts.items;
  asks : Asks l.assumptions l.watch.trail l.levels.starts.items l.levels.roots l.levels.asked;
}

abbrev pub decreases-decisions : goal.decreases-decisions
decreases-decisions l = l.watch.vars + 1 - length l.watch.trail
