use Rattle.ax_term.proofs.Walks.{leave_step, taken_lighter}
use Rattle.ax_term.proofs.walk.turn.Goals as goal

pub returns-in_ok-leave-in-Leave-clause-finishes : goal.returns-in_ok-leave-in-Leave-clause-finishes
returns-in_ok-leave-in-Leave-clause-finishes c =
    leave_step c.args.bank.now c.args.stack.now.items c.args.seen.now.order.items c.leave.new.seen.order.items c.in-Leave.number c.args.task c.in_ok-leave-in-Leave.ensures.order c.in-Leave.is

pub returns-in_ok-leave-in-Leave-clause-lighter : goal.returns-in_ok-leave-in-Leave-clause-lighter
returns-in_ok-leave-in-Leave-clause-lighter c = taken_lighter c.args.bank.now c.args.stack.now.items c.args.task
