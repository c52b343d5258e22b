use Rattle.std.proofs.Common.{arith}
use Rattle.ax_flow.specs.Drafts.{filled}
use Rattle.ax_flow.proofs.Filling.{mapped_step}
use Rattle.ax_flow.proofs.ops.fill.Goals as goal

pub loop-at-preserved : goal.loop-at-preserved
loop-at-preserved c =
    let inv = c.loop-at.invariant in
    (inv.0, mapped_step (filled c.args.broke c.args.continued) c.args.code.now c.loop-at.code c.fill_one.new.code c.loop-at.at (omega (arith, inv.0, c.loop-at-test.true)) inv.1 c.fill_one.ensures)
