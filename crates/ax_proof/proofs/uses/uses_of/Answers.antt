use Rattle.std.proofs.Common.{◌≡◌, ◌∙◌, length, ap}
use Rattle.ax_proof.proofs.Checks.{below_same}
use Rattle.ax_proof.proofs.Rights.{forced_from, right_found}
use Rattle.ax_proof.proofs.uses.uses_of.Goals as goal

pub propagate-requires : goal.propagate-requires
propagate-requires c = below_same _ _ _ c.deny.ensures.size c.requires.below

pub explain-requires-clause-forced : goal.explain-requires-clause-forced
explain-requires-clause-forced c =
    let seen : length c.lits-from.result.now ≡ length c.deny.new.trail.lits = ap length c.lits-from.ensures.value in
    forced_from _ c.deny.new.trail c.propagate.new.trail (length c.lits-from.result.now) c.propagate.ensures.goes_on seen

pub explain-requires-clause-below : goal.explain-requires-clause-below
explain-requires-clause-below c = below_same _ _ _ (c.fill.ensures.len ∙ c.requires.marks) c.requires.below
