use Rattle.std.proofs.Common.{sym}
use Rattle.ax_top.proofs.Named.{found, more, not_there}
use Rattle.ax_top.proofs.rankers.place_of.Goals as goal

pub returns-then-has_name-clause-first : goal.returns-then-has_name-clause-first
returns-then-has_name-clause-first g c = found _ _ c.args.rankers.now c.loop-i.i c.index-rankers-i.result c.loop-i-test.true c.index-rankers-i.is c.loop-i.invariant (sym c.if-has_name.ensures)

pub loop-i-preserved : goal.loop-i-preserved
loop-i-preserved g c = more _ _ c.args.rankers.now c.loop-i.i c.index-rankers-i.result c.loop-i-test.true c.index-rankers-i.is c.loop-i.invariant (sym c.if-has_name.ensures)

pub returns-clause-first : goal.returns-clause-first
returns-clause-first g c = not_there _ _ c.args.rankers.now c.loop-i.i c.loop-i-test.false c.loop-i.invariant
