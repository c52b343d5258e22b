use Rattle.std.proofs.Common.{◌<◌, ◌≤◌, ◌∙◌, length, arith, sym}
use Rattle.ax_proof.proofs.Runs.{step_below, step_false, step_goes_on, step_settled, all_settled, numbered_next}
use Rattle.ax_watch.proofs.Trails.{place_says}
use Rattle.ax_watch.proofs.scan.sweep.Goals as goal

pub apply-requires-clause-below : goal.apply-requires-clause-below
apply-requires-clause-below c =
    let within : c.loop-place.place < length c.args.store.now.clauses = omega arith in
    let here = c.get.ensures.value ∙ sym (numbered_next _ c.loop-place.place) in
    step_below _ c.loop-place.place c.get.result.now c.args.trail.now c.loop-place.trail c.loop-place.trail within here c.loop-place.invariant.goes_on.size c.requires.below

pub returns-then-not-apply-clause-conflict : goal.returns-then-not-apply-clause-conflict
returns-then-not-apply-clause-conflict c =
    let within : c.loop-place.place < length c.args.store.now.clauses = omega arith in
    let here = c.get.ensures.value ∙ sym (numbered_next _ c.loop-place.place) in
    place_says _ _ c.loop-place.place (step_false _ c.loop-place.place c.get.result.now c.args.trail.now c.loop-place.trail c.apply.new.trail within here c.if-not-apply.ensures)

pub loop-place-preserved : goal.loop-place-preserved
loop-place-preserved c =
    let within : c.loop-place.place < length c.args.store.now.clauses = omega arith in
    let here = c.get.ensures.value ∙ sym (numbered_next _ c.loop-place.place) in
    record {
      goes_on =
          step_goes_on _ c.loop-place.place c.get.result.now c.args.trail.now c.loop-place.trail c.apply.new.trail within here
          c.requires.paired c.loop-place.invariant.goes_on c.apply.result c.apply.ensures;
      settled =
          step_settled _ c.loop-place.place c.get.result.now c.args.trail.now c.loop-place.trail c.apply.new.trail within here
          c.requires.paired c.loop-place.invariant.goes_on c.loop-place.invariant.settled c.if-not-apply.ensures;
    }

pub returns-clause-quiet : goal.returns-clause-quiet
returns-clause-quiet c = λ e.
    let past : length c.args.store.now.clauses ≤ c.loop-place.place = omega arith in
    all_settled _ _ c.loop-place.place past (c.loop-place.invariant.settled e)
