use Rattle.std.proofs.Common.{◌≡◌, ◌++◌, drop}
use Rattle.ax_term.specs.Order.{trees_at, trees, visit_all, AllAmong}
use Rattle.ax_term.specs.Walk.{IsSeen}
use Rattle.ax_term.proofs.walk.walk_all.Given as goal

abbrev pub invariant-loop-root : goal.invariant-loop-root
invariant-loop-root l = record {
  seen : IsSeen l.bank l.seen.marks.items l.seen.order.items;
  roots : AllAmong l.bank (drop l.root-index l.roots);
  visits : visit_all (trees_at l.bank l.seen.order.items) (trees (drop l.root-index l.roots)) ≡ visit_all (trees_at l.bank l.initial.seen.order.items) (trees l.roots);
}
