use Rattle.std.proofs.Common.{◌≡◌, ◌++◌, ◌∷◌, [], length, sym, ap, ◌∙◌, subst, arith}
use Rattle.std.proofs.lemmas.Result.{IfOk-weaker}
use Rattle.ax_interp.specs.declared.machine.Gap.{Gap}
use Rattle.ax_interp.specs.Gaps.{AllEnded, EndedIn}
use Rattle.ax_interp.proofs.Ended.{all_more, length-end_from}
use Rattle.ax_interp.proofs.ending.leave.Goals as goal

pub returns-clause-ended : goal.returns-clause-ended
returns-clause-ended c =
    let from = c.args.from in
    let old = c.args.store.now.objects in
    let objects = c.end_outside-start.new.objects in
    let gaps = c.end_outside-start.new.gaps in
    let gap : Gap = record { from = c.end_outside-start.result; to = c.len-to.result } in
    let same : length objects ≡ length old = ap length c.end_outside-start.ensures.objects ∙ length-end_from from old in
    let ended : EndedIn gap.from gap.to objects = λ i ge l. c.end_outside-start.ensures.all i ge (omega (arith, l, same, c.len-to.ensures)) in
    IfOk-weaker c.push.result (λ u. c.push.new.self ≡ gaps ++ gap ∷ []) (λ u. AllEnded c.push.new.self objects)
    (λ u e. subst (λ gs. AllEnded gs objects) (sym e) (all_more gaps gap objects c.end_outside-start.ensures.gaps ended)) c.push.ensures.ok
