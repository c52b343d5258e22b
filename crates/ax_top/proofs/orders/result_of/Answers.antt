use Rattle.std.proofs.Common.{map}
use Rattle.ax_rank_coverage.specs.Handed.{handed}
use Rattle.ax_top.proofs.Told.{rank-ends, run-ends}
use Rattle.ax_top.proofs.orders.result_of.Goals as goal

pub returns-in-Check-clause-ends : goal.returns-in-Check-clause-ends
returns-in-Check-clause-ends g c =
    rw (c.in-Check.is, ← c.as_str.ensures.value, ← c.as_str-in-Check.ensures.value, ← c.as_str-in-Check-2.ensures.value) c.check.ensures.stops

pub returns-in-Run-clause-ends : goal.returns-in-Run-clause-ends
returns-in-Run-clause-ends g c =
    rw c.in-Run.is
    (run-ends _ _ (map (λ b. handed ((goal.Ranker-dyn g (b.vtable, b.value)).title b.value) ((goal.Ranker-dyn g (b.vtable, b.value)).runs b.value) ((goal.Ranker-dyn g (b.vtable, b.value)).formula b.value)) c.args.rankers.now)
    c.in-Run.source c.in-Run.tests c.in-Run.steps _ _ c.as_str-in-Run.ensures.value c.as_str-in-Run-2.ensures.value c.run.result c.told.result c.told.ensures c.run.ensures.ends)

pub returns-in-Rank-clause-ends : goal.returns-in-Rank-clause-ends
returns-in-Rank-clause-ends g c =
    rw c.in-Rank.is
    (rank-ends _ _ _ c.in-Rank.source c.in-Rank.tests c.in-Rank.formula c.in-Rank.steps _ _ _ c.as_str-in-Rank.ensures.value c.as_str-in-Rank-2.ensures.value c.as_str-in-Rank-3.ensures.value
    c.rank.result c.told-in-Rank.result c.told-in-Rank.ensures c.rank.ensures.ends)
