use Rattle.std.proofs.Common.{length}
use Rattle.ax_watch.specs.Lists.{list_in}
use Rattle.ax_watch.proofs.Walks.{Walking}
use Rattle.ax_watch.proofs.watched.walk.Given as goal

abbrev pub invariant-cells : goal.invariant-cells
invariant-cells l = Walking l.store.clauses l.fn.trail.size l.fn.trail l.fn.watched l.trail l.watched l.fn.lists l.lists l.lit l.head

abbrev pub decreases-cells : goal.decreases-cells
decreases-cells l = length (list_in l.lists 0)
