use Rattle.ax_names_rules.proofs.Laws.{stmt_or_fault, never_both}
use Rattle.ax_names_rules.proofs.statement_or_fault.Goals as goal

pub returns-clause-one : goal.returns-clause-one
returns-clause-one c = stmt_or_fault

pub returns-clause-never_both : goal.returns-clause-never_both
returns-clause-never_both c = never_both
