use Rattle.std.proofs.Common.{length}
use Rattle.ax_watch.specs.Lists.{list_in}
use Rattle.ax_watch.proofs.Pouring.{Poured}
use Rattle.ax_watch.proofs.lists.Lists.pour.Given as goal

abbrev pub invariant-cells : goal.invariant-cells
invariant-cells l = Poured l.from l.to l.initial.self l.self

abbrev pub decreases-cells : goal.decreases-cells
decreases-cells l = length (list_in l.self l.from)
