use Rattle.ax_sat_policy.proofs.Cores.{core_itself, core_of_core}
use Rattle.ax_sat.proofs.search.prepare.Goals as goal

pub returns-clause-core : goal.returns-clause-core
returns-clause-core c = core_of_core _ _ _ c.in_ok-begin_anew.ensures.core (core_itself _ _ c.restart.ensures.clauses)
