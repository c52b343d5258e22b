use Rattle.std.proofs.Common.{arith}
use Rattle.ax_proof.proofs.Rights.{forces_none, forces_one, true_not_unit, two_not_unit, unit_not_false}
use Rattle.ax_proof.proofs.right.force.Goals as goal

pub returns-in-Satisfied-clause-forced : goal.returns-in-Satisfied-clause-forced
returns-in-Satisfied-clause-forced g c =
    forces_none _ c.args.limit c.args.number c.requires.1 (omega arith) (omega arith) _ c.args.known.now (λ u h. true_not_unit _ _ u c.in-Satisfied.ensures.judged h)

pub returns-in-Falsified-clause-forced : goal.returns-in-Falsified-clause-forced
returns-in-Falsified-clause-forced g c =
    forces_none _ c.args.limit c.args.number c.requires.1 (omega arith) (omega arith) _ c.args.known.now (λ u h. unit_not_false _ _ u h c.in-Falsified.ensures.judged)

pub returns-in-Undecided-clause-forced : goal.returns-in-Undecided-clause-forced
returns-in-Undecided-clause-forced g c =
    forces_none _ c.args.limit c.args.number c.requires.1 (omega arith) (omega arith) _ c.args.known.now (λ u h. two_not_unit _ _ u c.in-Undecided.ensures.judged h)

pub returns-in_ok-push-in-Unit-clause-forced : goal.returns-in_ok-push-in-Unit-clause-forced
returns-in_ok-push-in-Unit-clause-forced g c =
    forces_one _ c.args.limit c.args.number c.requires.1 (omega arith) (omega arith) _ _ c.in-Unit.lit c.in-Unit.ensures.judged c.in_ok-push-in-Unit.ensures
