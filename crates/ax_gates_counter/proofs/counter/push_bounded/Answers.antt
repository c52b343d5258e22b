use Rattle.ax_gates_counter.proofs.Laws.{counter_appended}
use Rattle.ax_gates_counter.proofs.counter.push_bounded.Goals as goal

pub returns-clause-appends : goal.returns-clause-appends
returns-clause-appends c =
    counter_appended c.args.cnf.now.clauses.items c.push_columns.new.cnf.clauses.items c.push_false.new.clauses.items c.args.cnf.now.vars c.push_columns.new.cnf.vars c.args.inputs.now c.args.bound
    c.requires.below c.in_ok-push_columns.ensures.appends c.in_ok-push_columns.ensures.vars c.in_ok-push_false.ensures.appends
