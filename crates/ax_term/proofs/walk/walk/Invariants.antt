use Rattle.std.proofs.Common.{◌≡◌, ◌++◌, length}
use Rattle.ax_term.specs.Order.{trees_at}
use Rattle.ax_term.specs.Walk.{finish, load, AllTasks, IsSeen}
use Rattle.ax_term.proofs.walk.walk.Given as goal

abbrev pub invariant-loop-task : goal.invariant-loop-task
invariant-loop-task l = record {
  seen : IsSeen l.bank l.seen.marks.items l.seen.order.items;
  tasks : AllTasks (length l.bank) l.stack.items;
  finishes : finish l.bank l.stack.items (trees_at l.bank l.seen.order.items) ≡ finish l.bank l.initial.stack.items (trees_at l.bank l.initial.seen.order.items);
}

abbrev pub decreases-loop-task : goal.decreases-loop-task
decreases-loop-task l = load l.bank l.stack.items
