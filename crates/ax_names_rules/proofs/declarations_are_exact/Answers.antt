use Rattle.ax_names_rules.proofs.Laws.{vars_exact, globals_exact}
use Rattle.ax_names_rules.proofs.declarations_are_exact.Goals as goal

pub returns-clause-variables : goal.returns-clause-variables
returns-clause-variables c = vars_exact

pub returns-clause-globals : goal.returns-clause-globals
returns-clause-globals c = globals_exact
