use Rattle.std.proofs.Common.{sym, ◌∙◌}
use Rattle.ax_space_trees.proofs.Members.{no-false}
use Rattle.ax_space.proofs.Rising.{small-candidate, candidate-small, no-candidate}
use Rattle.ax_space.proofs.choosing.is_candidate.Goals as goal

pub returns-in-Some : goal.returns-in-Some
returns-in-Some c = (
  (λ h. small-candidate c.args.program.now c.args.id c.in-Some.slot.now (sym c.in-Some.ensures.value) (sym c.is_small_tree.ensures ∙ h)),
  (λ k. c.is_small_tree.ensures ∙ candidate-small c.args.program.now c.args.id c.in-Some.slot.now (sym c.in-Some.ensures.value) k),
)

pub returns-in-None : goal.returns-in-None
returns-in-None c = ((λ h. absurd (no-false h)), (λ k. absurd (no-candidate c.args.program.now c.args.id (sym c.in-None.ensures.value) k)))
