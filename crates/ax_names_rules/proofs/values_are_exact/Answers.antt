use Rattle.ax_names_rules.proofs.Laws.{number_exact, call_exact, given_exact, target_exact}
use Rattle.ax_names_rules.proofs.values_are_exact.Goals as goal

pub returns-clause-number : goal.returns-clause-number
returns-clause-number c = number_exact

pub returns-clause-call : goal.returns-clause-call
returns-clause-call c = call_exact

pub returns-clause-given : goal.returns-clause-given
returns-clause-given c = given_exact

pub returns-clause-target : goal.returns-clause-target
returns-clause-target c = target_exact
