use Rattle.std.proofs.Common.{◌≤◌, ◌<◌, arith, refl}
use Rattle.ax_proof.proofs.Rights.{not_true, refutes_false, false_from, true_not_false, two_not_false, unit_not_false}
use Rattle.ax_proof.proofs.right.is_false.Goals as goal

pub returns-in-Satisfied-clause-exact : goal.returns-in-Satisfied-clause-exact
returns-in-Satisfied-clause-exact g c = (
  (λ e. absurd (not_true e)),
  (λ h. absurd (true_not_false _ _ c.in-Satisfied.ensures.judged (false_from _ c.args.limit c.args.number c.requires.1 (omega arith) (omega arith) _ h))),
)

pub returns-in-Falsified-clause-exact : goal.returns-in-Falsified-clause-exact
returns-in-Falsified-clause-exact g c =
    ((λ _. refutes_false _ c.args.limit c.args.number c.requires.1 (omega arith) (omega arith) _ c.in-Falsified.ensures.judged), (λ _. refl))

pub returns-in-Undecided-clause-exact : goal.returns-in-Undecided-clause-exact
returns-in-Undecided-clause-exact g c = (
  (λ e. absurd (not_true e)),
  (λ h. absurd (two_not_false _ _ c.in-Undecided.ensures.judged (false_from _ c.args.limit c.args.number c.requires.1 (omega arith) (omega arith) _ h))),
)

pub returns-in-Unit-clause-exact : goal.returns-in-Unit-clause-exact
returns-in-Unit-clause-exact g c = (
  (λ e. absurd (not_true e)),
  (λ h. absurd (unit_not_false _ _ c.in-Unit.field-0 c.in-Unit.ensures.judged (false_from _ c.args.limit c.args.number c.requires.1 (omega arith) (omega arith) _ h))),
)
