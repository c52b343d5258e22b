use Rattle.std.proofs.Common.{length, subst}
use Rattle.ax_term.specs.Walk.{AllTasks}
use Rattle.ax_term.proofs.Walks.{tasks_front}
use Rattle.ax_term.proofs.walk.walk.Goals as goal

pub turn-requires-clause-task : goal.turn-requires-clause-task
turn-requires-clause-task c = (tasks_front (length c.args.bank.now) c.pop.new.self.items c.in-Some.task (subst (AllTasks (length c.args.bank.now)) c.in-Some.ensures.items c.loop-task.invariant.tasks)).1

pub turn-requires-clause-tasks : goal.turn-requires-clause-tasks
turn-requires-clause-tasks c = (tasks_front (length c.args.bank.now) c.pop.new.self.items c.in-Some.task (subst (AllTasks (length c.args.bank.now)) c.in-Some.ensures.items c.loop-task.invariant.tasks)).0
