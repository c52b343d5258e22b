use Rattle.ax_gates_counter.proofs.Laws.{counter_exact}
use Rattle.ax_gates_counter.proofs.Growing.{columns_more}
use Rattle.ax_gates_counter.proofs.counter.at_most.Goals as goal

pub returns-clause-exact : goal.returns-clause-exact
returns-clause-exact c = counter_exact c.args.cnf.now.vars c.args.inputs.now c.args.bound

pub returns-clause-next_column : goal.returns-clause-next_column
returns-clause-next_column c = columns_more c.args.cnf.now.vars c.args.inputs.now c.args.bound
