use Rattle.std.proofs.Common.{◌++◌, ◌∷◌, [], length, sym, ◌∙◌, subst, arith}
use Rattle.ax_interp.specs.Gaps.{AllEnded, EndedIn}
use Rattle.ax_interp.proofs.Ended.{all_stay, all_but_last, last_ended, all_ended, ended_on}
use Rattle.ax_interp.proofs.ending.end_outside.Goals as goal

pub loop-gap-preserved : goal.loop-gap-preserved
loop-gap-preserved c =
    let gap = c.in-Some.gap in
    let left = c.reaching.new.gaps in
    let before = c.loop-gap.objects in
    let after = c.end_between.new.objects in
    let ended : AllEnded (left ++ gap ∷ []) before = subst (λ gs. AllEnded gs before) c.in-Some.ensures.0 c.loop-gap.invariant.gaps in
    record {
      still = c.end_between.ensures.before c.args.from c.in-Some.ensures.1 ∙ c.loop-gap.invariant.still;
      gaps = all_stay left before after c.end_between.ensures.stay (all_but_last left gap before ended);
      ended = ended_on gap.from gap.to c.loop-gap.end before after (last_ended left gap before ended) c.loop-gap.invariant.ended c.end_between.ensures.stay c.end_between.ensures.length
          c.end_between.ensures.ended;
    }

pub returns-clause-objects : goal.returns-clause-objects
returns-clause-objects c =
    let from = c.args.from in
    let before = c.loop-gap.objects in
    let after = c.end_between-2.new.objects in
    let ended : EndedIn from (length after) after = ended_on from from c.loop-gap.end before after (λ i ge l. absurd (omega arith)) c.loop-gap.invariant.ended c.end_between-2.ensures.stay
    c.end_between-2.ensures.length c.end_between-2.ensures.ended in
    sym (all_ended from after ended) ∙ c.end_between-2.ensures.before from (omega arith) ∙ c.loop-gap.invariant.still

pub returns-clause-gaps : goal.returns-clause-gaps
returns-clause-gaps c =
    all_stay c.reaching.new.gaps c.loop-gap.objects c.end_between-2.new.objects c.end_between-2.ensures.stay
    (subst (λ gs. AllEnded gs c.loop-gap.objects) (sym c.in_default.ensures) c.loop-gap.invariant.gaps)
