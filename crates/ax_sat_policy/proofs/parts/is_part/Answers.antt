use Rattle.std.proofs.Common.{arith}
use Rattle.ax_sat_policy.proofs.Choosing.{part_none, part_more, part_every}
use Rattle.ax_sat_policy.proofs.parts.is_part.Goals as goal

pub loop-lit-init : goal.loop-lit-init
loop-lit-init c = part_none c.args.part.now c.args.lits.now

pub loop-lit-preserved : goal.loop-lit-preserved
loop-lit-preserved c = part_more _ _ c.loop-lit.lit-index c.lit-item.result c.loop-lit-test.true c.lit-item.is (c.has.ensures c.if-not-has.false) c.loop-lit.invariant

pub returns : goal.returns
returns c = λ e. part_every _ _ c.loop-lit.lit-index (omega arith) c.loop-lit.invariant
