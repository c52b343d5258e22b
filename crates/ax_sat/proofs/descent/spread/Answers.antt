use Rattle.ax_sat.proofs.Descents.{begins_long}
use Rattle.ax_sat.proofs.descent.spread.Goals as goal

pub returns-clause-longer : goal.returns-clause-longer
returns-clause-longer c = begins_long _ _ c.propagate-found.ensures.goes_on.lits
