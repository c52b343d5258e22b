use Rattle.std.proofs.Common.{refl, inr}
use Rattle.ax_sat_policy.proofs.Choosing.{over_along}
use Rattle.ax_sat_policy.proofs.anew.take.Goals as goal

pub put_copy-requires-clause-over : goal.put_copy-requires-clause-over
put_copy-requires-clause-over c = over_along _ _ _ _ c.requires.vars refl c.clause.ensures.over

pub returns-clause-takes : goal.returns-clause-takes
returns-clause-takes c = inr (rw (← c.clause.ensures.value) c.in_ok-put_copy.ensures.clauses)
