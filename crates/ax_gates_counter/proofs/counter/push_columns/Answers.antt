use Rattle.ax_gates_counter.proofs.Laws.{columns_appended}
use Rattle.ax_gates_counter.proofs.counter.push_columns.Goals as goal

pub returns-clause-appends : goal.returns-clause-appends
returns-clause-appends c =
    columns_appended c.args.cnf.now.clauses.items c.push_first_column.new.cnf.clauses.items c.push_later_columns.new.cnf.clauses.items c.args.cnf.now.vars c.push_first_column.new.cnf.vars c.args.inputs.now c.args.bound c.in_ok-column.column.items
    c.in_ok-column.ensures.appends c.in_ok-column.ensures.outs c.in_ok-column.ensures.vars c.in_ok-push_later_columns.ensures.appends
