use Rattle.std.proofs.Common.{inl, inr, refl}
use Rattle.ax_proof.proofs.Runs.{same_state, unit_below}
use Rattle.ax_proof.specs.Runs.{pushed}
use Rattle.ax_watch.proofs.scan.apply.Goals as goal

pub push-requires-clause-within : goal.push-requires-clause-within
push-requires-clause-within c = unit_below _ _ _ c.in-Unit.lit c.requires.below c.in-Unit.ensures

pub returns-in-Satisfied : goal.returns-in-Satisfied
returns-in-Satisfied c = let (l, lin, stands) = c.in-Satisfied.ensures in inl (refl, inl (l, lin, stands.0))

pub returns-in-Undecided : goal.returns-in-Undecided
returns-in-Undecided c = inl (refl, inr c.in-Undecided.ensures)

pub returns-in-Unit : goal.returns-in-Unit
returns-in-Unit c =
    inr (
      c.in-Unit.lit,
      c.in-Unit.ensures,
      same_state c.push.new.self (pushed c.args.trail.now c.in-Unit.lit c.args.number) c.push.ensures.lits c.push.ensures.reasons c.push.ensures.size,
    )
