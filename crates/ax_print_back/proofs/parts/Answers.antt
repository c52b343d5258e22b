use Rattle.std.proofs.Common.{ℕ, List, [], ◌∷◌, ◌++◌, ◌∙◌, arith, ap, length, get_or}
use Rattle.ax_print_back.proofs.InTurn.{next_change, next_part}
use Rattle.ax_print_back.proofs.parts.Goals as goal

pub bounds-as_slice-change : goal.bounds-as_slice-change
bounds-as_slice-change c =
    let rest = c.loop-change.invariant.rest in
    let next = next_change _ _ _ _ c.change-item.result c.loop-change-test.true c.change-item.is rest.1 in
    omega (arith, next.0.0, ap length c.as_slice.ensures)

pub loop-change-preserved : goal.loop-change-preserved
loop-change-preserved c =
    let rest = c.loop-change.invariant.rest in
    let change = c.change-item.result in
    let slots = c.as_slice.result.now in
    let other = c.index-as_slice-change.result in
    let next = next_change _ _ _ _ change c.loop-change-test.true c.change-item.is rest.1 in
    let made = c.in_ok-push.ensures.ok ∙ ap (λ (text : List ℕ). c.loop-change.parts ++ ((get_or slots change.0.0 other).span, text) ∷ []) c.in_ok-text.ensures in
    record {
      done = next_part c.args.source.now c.args.program.now c.args.changes.now c.loop-change.change-index change slots other c.loop-change.parts c.push.new.self _ c.loop-change-test.true c.change-item.is c.as_slice.ensures (omega (arith, next.0.0)) c.loop-change.invariant.done made;
      rest = (_, next.1);
    }
