use Rattle.std.proofs.Common.{◌≡◌, ◌<◌, ◌≤◌, length, arith, sym}
use Rattle.std.proofs.lemmas.Option.{get_or_from_slice_get}
use Rattle.ax_proof.specs.Uses.{numbered}
use Rattle.ax_proof.proofs.Judgements.{false_more, first_open, second_open, all_seen}
use Rattle.ax_proof.proofs.right.judge_shown.Goals as goal
use Rattle.ax_proof.proofs.right.judge_shown.Goals.{in-False, in-Open+in-None}

pub returns-in-Some-clause-judged : goal.returns-in-Some-clause-judged
returns-in-Some-clause-judged g c =
    let here = sym (get_or_from_slice_get (numbered (g.S.Shown.clauses c.args.shown.now) c.args.number) c.loop-place.place c.lit-lit.result c.lit-lit.result c.lit-lit.ensures.value) in
    let within = rw c.width-place-end.ensures.value at c.loop-place-test.true in
    let seen = rw c.in-Some.is at c.loop-place.invariant.seen in
    second_open _ _ c.loop-place.place c.lit-lit.result within here c.in-Some.field-0 c.width-place-end.ensures.rising seen c.in-Open.ensures

pub loop-place-preserved : goal.loop-place-preserved
loop-place-preserved g c =
    let here = sym (get_or_from_slice_get (numbered (g.S.Shown.clauses c.args.shown.now) c.args.number) c.loop-place.place c.lit-lit.result c.lit-lit.result c.lit-lit.ensures.value) in
    let within = rw c.width-place-end.ensures.value at c.loop-place-test.true in
    let step = c.lit-lit.ensures.step in
    let before = c.loop-place.invariant.steps in
    elim c.match-truth.branch [
      | in-False w ↦ record {
        seen = rw w.unit-is (false_more _ _ c.loop-place.place c.lit-lit.result within here c.loop-place.unit c.loop-place.invariant.seen w.in-False.ensures.0);
        steps = omega arith;
      }
      | in-Open+in-None w ↦
          let seen = rw w.in-None.is at c.loop-place.invariant.seen in
          record {
            seen = rw w.unit-is (first_open _ _ c.loop-place.place c.lit-lit.result within here seen w.in-Open.ensures);
            steps = omega arith;
          }
    ]

pub returns-in-Some-unit-clause-judged : goal.returns-in-Some-unit-clause-judged
returns-in-Some-unit-clause-judged g c =
    let past = rw c.width-place-end.ensures.value at c.loop-place-test.false in
    let seen = all_seen _ _ _ c.loop-place.unit past c.loop-place.invariant.seen in
    rw c.in-Some-unit.is at seen

pub returns-in-None-unit-clause-judged : goal.returns-in-None-unit-clause-judged
returns-in-None-unit-clause-judged g c =
    let past = rw c.width-place-end.ensures.value at c.loop-place-test.false in
    let seen = all_seen _ _ _ c.loop-place.unit past c.loop-place.invariant.seen in
    rw c.in-None-unit.is at seen
