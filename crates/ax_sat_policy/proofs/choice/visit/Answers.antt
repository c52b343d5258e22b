use Rattle.std.proofs.Common.{arith}
use Rattle.ax_sat_policy.proofs.Choosing.{mark_keeps, mark_here}
use Rattle.ax_sat_policy.proofs.choice.visit.Goals as goal

pub returns-then-has_part-clause-part : goal.returns-then-has_part-clause-part
returns-then-has_part-clause-part c = let part = c.has_part.ensures c.if-has_part.true in rw (← c.clause-lits.ensures.value, ← c.as_slice.ensures.value) part

pub returns-clause-more : goal.returns-clause-more
returns-clause-more c = let p = c.requires.place in let e = c.requires.size in λ k m. mark_keeps c.args.kept.now.items c.args.place k (omega arith) m

pub returns-clause-part : goal.returns-clause-part
returns-clause-part c = let p = c.requires.place in let e = c.requires.size in mark_here c.args.watch.now.clauses c.args.kept.now.items c.args.place (omega arith) (omega arith)
