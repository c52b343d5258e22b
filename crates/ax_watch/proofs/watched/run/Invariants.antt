use Rattle.std.proofs.Common.{◌≤◌, ◌-◌, length}
use Rattle.ax_watch.specs.Watched.{Walks, Reaches}
use Rattle.ax_watch.proofs.watched.run.Given as goal

abbrev pub invariant-heads : goal.invariant-heads
invariant-heads l = record {
  walks : Walks l.store.clauses l.fn.trail l.fn.watched l.fn.lists l.trail l.watched l.lists;
  reached : Reaches l.store.clauses l.watched l.trail.lits l.head;
  low : l.head ≤ length l.trail.lits;
}

abbrev pub decreases-heads : goal.decreases-heads
decreases-heads l = l.trail.size - l.head
