use Rattle.std.proofs.Common.{arith, sym}
use Rattle.std.proofs.lemmas.Option.{get_or_from_slice_get}
use Rattle.ax_proof.specs.Uses.{numbered}
use Rattle.ax_proof.proofs.Denials.{denial_open, denied_more}
use Rattle.ax_proof.proofs.right.deny_shown.Goals as goal

pub push-requires : goal.push-requires
push-requires g c =
    let here = sym (get_or_from_slice_get (numbered (g.S.Shown.clauses c.args.shown.now) c.args.number) c.loop-place.place c.lit.result c.lit.result c.lit.ensures.value) in
    let within = rw c.width-place-end.ensures.value at c.loop-place-test.true in
    rw c.negate-lit.ensures
    (denial_open _ c.loop-place.place c.lit.result within here _ c.width-place-end.ensures.rising c.loop-place.invariant.lits)

pub loop-place-preserved : goal.loop-place-preserved
loop-place-preserved g c =
    let here = sym (get_or_from_slice_get (numbered (g.S.Shown.clauses c.args.shown.now) c.args.number) c.loop-place.place c.lit.result c.lit.result c.lit.ensures.value) in
    let within = rw c.width-place-end.ensures.value at c.loop-place-test.true in
    let step = c.lit.ensures.step in
    let before = c.loop-place.invariant.steps in
    let pushed = rw c.negate-lit.ensures at c.in_ok-push.ensures in
    record {
      lits = denied_more _ c.loop-place.place c.lit.result _ _ within here c.loop-place.invariant.lits pushed;
      steps = omega arith;
    }
