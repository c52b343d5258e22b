use Rattle.ax_blast.specs.Blasting.{constant_bits}
use Rattle.ax_blast.proofs.Bits.{constant_more}
use Rattle.ax_blast.proofs.block.low_bits.Goals as goal

pub loop-preserved : goal.loop-preserved
loop-preserved c = record {
  bits = constant_more c.push.new.self.items c.loop.bits.items (constant_bits c.args.count c.args.number) c.new.result c.args.count c.loop.counter c.loop.rest c.in_ok-push.ensures.items c.new.ensures c.loop-test.true c.loop.invariant.bits;
}
