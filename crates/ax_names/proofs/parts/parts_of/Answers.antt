use Rattle.std.proofs.Common.{sym, ◌∙◌}
use Rattle.ax_names.proofs.Steps.{parts_step}
use Rattle.ax_names.proofs.parts.parts_of.Goals as goal

pub loop-part-preserved : goal.loop-part-preserved
loop-part-preserved c = (
  sym (parts_step c.args.defs.now c.args.parts.now c.loop-part.part-index c.part-item.result c.loop-part.st c.part_of.new.st c.loop-part-test.true c.part-item.is c.in_ok-part_of.ensures.done) ∙ c.loop-part.invariant.0,
  c.in_ok-part_of.ensures.cells,
)
