use Rattle.std.proofs.Common.{◌∙◌}
use Rattle.ax_names.proofs.Steps.{definitions_step}
use Rattle.ax_names.proofs.definitions_of.Goals as goal

pub loop-part-preserved : goal.loop-part-preserved
loop-part-preserved c =
    definitions_step c.args.parts.now c.loop-part.part-index c.part-item.result c.loop-part.names c.push_definition.new.names c.loop-part-test.true c.part-item.is c.in_ok-push_definition.ensures ∙ c.loop-part.invariant
