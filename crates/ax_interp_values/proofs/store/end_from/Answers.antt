use Rattle.std.proofs.Common.{◌∙◌, ap, length, add-one}
use Rattle.ax_interp_values.proofs.Ends.{end_from-end_object, length-end_object}
use Rattle.ax_interp_values.proofs.store.end_from.Goals as goal

pub loop-at-preserved : goal.loop-at-preserved
loop-at-preserved c = record {
  still = rw (add-one, c.end_object.ensures) (end_from-end_object c.loop-at.at c.loop-at.objects ∙ c.loop-at.invariant.still);
  length = ap length c.end_object.ensures ∙ length-end_object c.loop-at.at c.loop-at.objects ∙ c.loop-at.invariant.length;
}
