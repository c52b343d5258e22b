use Rattle.std.proofs.Common.{◌++◌, ap, ◌∙◌}
use Rattle.std.specs.Option.{option_copied}
use Rattle.ax_space_trees.specs.Positions.{labelled}
use Rattle.ax_space.specs.Positions.{old_marks}
use Rattle.ax_space.proofs.Places.{described-one}
use Rattle.ax_space.proofs.positions.position.Goals as goal

pub returns-clause-described : goal.returns-clause-described
returns-clause-described c =
    described-one c.args.sets.now c.args.grow c.args.slot.now c.args.word.now c.as_slice.result.now _ (option_copied c.part_at-part.result) c.part_at-part.ensures
    (c.as_slice.ensures ∙ c.in_ok-append.ensures ∙ ap (λ z. z ++ c.in_ok-others.others) c.in_ok-marks.ensures ∙ ap (λ z. old_marks (labelled (option_copied c.part_at-part.result)) ++ z) c.in_ok-others.ensures) c.in_ok-labels.ensures c.in_ok-word.ensures c.has_node-old.ensures
