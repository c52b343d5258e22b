use Rattle.std.proofs.Common.{refl}
use Rattle.ax_sat_policy.proofs.Choosing.{over_along}
use Rattle.ax_sat_policy.proofs.anew.put_copy.Goals as goal

pub put-requires : goal.put-requires
put-requires c = over_along _ _ _ _ refl c.in_ok-clause.ensures c.requires.over

pub returns-clause-clauses : goal.returns-clause-clauses
returns-clause-clauses c = rw (← c.in_ok-clause.ensures) c.in_ok-put.ensures.clauses
