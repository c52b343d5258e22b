use Rattle.ax_names_rules.proofs.Laws.{one_stmt, one_list}
use Rattle.ax_names_rules.proofs.one_statement.Goals as goal

pub returns-clause-statement : goal.returns-clause-statement
returns-clause-statement c = one_stmt

pub returns-clause-items : goal.returns-clause-items
returns-clause-items c = one_list
