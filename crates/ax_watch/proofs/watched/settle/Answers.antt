use Rattle.std.proofs.Common.{◌≤◌, ◌∙◌, length, get_or, arith, sym}
use Rattle.ax_proof.proofs.Runs.{step_below, step_false, step_goes_on, numbered_next}
use Rattle.ax_watch.proofs.Trails.{place_says}
use Rattle.ax_watch.proofs.Settling.{shorts_more, shorts_end}
use Rattle.ax_watch.proofs.watched.settle.Goals as goal

pub overflow_add-place : goal.overflow_add-place
overflow_add-place c =
    let few = c.requires.short c.loop-place.place-index 0 c.loop-place-test.true in
    let within = few.0 in
    let n = c.len-count.ensures in
    omega arith

pub apply-requires-clause-below : goal.apply-requires-clause-below
apply-requires-clause-below c =
    let few = c.requires.short c.loop-place.place-index 0 c.loop-place-test.true in
    let here = c.get.ensures.value ∙ sym (numbered_next _ (get_or c.args.short.now c.loop-place.place-index 0)) in
    step_below _ (get_or c.args.short.now c.loop-place.place-index 0) c.get.result.now c.args.trail.now c.loop-place.trail c.loop-place.trail few.0 here c.loop-place.invariant.goes_on.size c.requires.below

pub returns-then-not-apply-clause-conflict : goal.returns-then-not-apply-clause-conflict
returns-then-not-apply-clause-conflict c =
    let few = c.requires.short c.loop-place.place-index 0 c.loop-place-test.true in
    let here = c.get.ensures.value ∙ sym (numbered_next _ (get_or c.args.short.now c.loop-place.place-index 0)) in
    place_says _ _ (get_or c.args.short.now c.loop-place.place-index 0) (step_false _ (get_or c.args.short.now c.loop-place.place-index 0) c.get.result.now c.args.trail.now c.loop-place.trail c.apply.new.trail few.0 here c.if-not-apply.ensures)

pub loop-place-preserved : goal.loop-place-preserved
loop-place-preserved c =
    let few = c.requires.short c.loop-place.place-index 0 c.loop-place-test.true in
    let here = c.get.ensures.value ∙ sym (numbered_next _ (get_or c.args.short.now c.loop-place.place-index 0)) in
    record {
      goes_on =
          step_goes_on _ (get_or c.args.short.now c.loop-place.place-index 0) c.get.result.now c.args.trail.now c.loop-place.trail c.apply.new.trail few.0 here
          c.requires.paired c.loop-place.invariant.goes_on c.apply.result c.apply.ensures;
      settled = shorts_more _ _ c.loop-place.place-index _ c.get.result.now c.loop-place.trail c.apply.new.trail c.loop-place-test.true few c.get.ensures.value c.if-not-apply.ensures c.loop-place.invariant.settled;
    }

pub returns-clause-settled : goal.returns-clause-settled
returns-clause-settled c =
    let past : length c.args.short.now ≤ c.loop-place.place-index = omega arith in
    shorts_end _ _ _ c.loop-place.place-index past c.loop-place.invariant.settled
