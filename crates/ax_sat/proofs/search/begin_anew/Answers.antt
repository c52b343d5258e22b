use Rattle.std.proofs.Common.{refl}
use Rattle.ax_sat_policy.proofs.Cores.{core_itself}
use Rattle.ax_sat.proofs.Decisions.{stands_start, asks_start}
use Rattle.ax_sat.proofs.search.begin_anew.Goals as goal

pub returns-then-not-is_over-clause-core : goal.returns-then-not-is_over-clause-core
returns-then-not-is_over-clause-core c = core_itself _ _ refl

pub returns-clause-stands : goal.returns-clause-stands
returns-clause-stands c = stands_start _ _ _ _ c.in_ok-renew.ensures.trail c.clear.ensures.starts

pub returns-clause-asks : goal.returns-clause-asks
returns-clause-asks c = asks_start _ _ _ _ _ c.clear.ensures.starts c.clear.ensures.roots c.clear.ensures.asked
