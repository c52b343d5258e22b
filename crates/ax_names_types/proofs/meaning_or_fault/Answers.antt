use Rattle.ax_names_types.proofs.Exact.{meant_or_broken, never_both}
use Rattle.ax_names_types.proofs.meaning_or_fault.Goals as goal

pub returns-clause-one : goal.returns-clause-one
returns-clause-one c = meant_or_broken

pub returns-clause-never_both : goal.returns-clause-never_both
returns-clause-never_both c = never_both
