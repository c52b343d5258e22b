use Rattle.ax_names_rules.proofs.Laws.{stmt_exact, items_exact}
use Rattle.ax_names_rules.proofs.statements_are_exact.Goals as goal

pub returns-clause-statement : goal.returns-clause-statement
returns-clause-statement c = stmt_exact

pub returns-clause-items : goal.returns-clause-items
returns-clause-items c = items_exact
