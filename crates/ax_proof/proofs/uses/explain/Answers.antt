use Rattle.std.proofs.Common.{◌≡◌, ◌-◌, ◌<◌, ◌≤◌, ◌∙◌, length, arith, ap, sym, true}
use Rattle.ax_proof.proofs.Checks.{below_same}
use Rattle.ax_proof.proofs.Markings.{explains_false, explains_less, explains_more, explains_at, forced_there, numbered_below, explained_from}
use Rattle.ax_proof.proofs.uses.explain.Goals as goal

pub mark-requires : goal.mark-requires
mark-requires c = numbered_below _ c.args.number _ _ c.requires.conflict.0 c.clause_numbered.ensures c.requires.below

pub loop-place-init : goal.loop-place-init
loop-place-init c =
    let seen : length c.lits-lits.result.now ≡ length c.args.trail.now.lits = ap length c.lits-lits.ensures.value in
    let from = c.requires.from in
    record {
      low = omega arith;
      size = c.mark.ensures.size;
      explains =
          rw (c.in_ok-push.ensures.items, c.new-uses.ensures.items)
          (explains_false _ _ (length c.lits-lits.result.now) c.args.number _ _ _ (omega arith) c.requires.conflict.0 c.requires.conflict.1 c.clause_numbered.ensures c.mark.ensures);
    }

pub bounds-marks-var : goal.bounds-marks-var
bounds-marks-var c =
    let seen : length c.lits-lits.result.now ≡ length c.args.trail.now.lits = ap length c.lits-lits.ensures.value in
    let within : c.loop-place.place - 1 < length c.args.trail.now.lits = omega arith in
    let here = rw c.lits-lits.ensures.value at c.index-lits-place.is in
    let below : c.index-lits-place.result.var < c.args.trail.now.size = c.lits-lits.ensures.below c.index-lits-place.result (c.loop-place.place - 1, within, sym here) in
    let size = c.loop-place.invariant.size in
    let room = c.requires.marks in
    rw c.var.ensures.value (omega arith)

pub clause_numbered-requires-then-marks-var : goal.clause_numbered-requires-then-marks-var
clause_numbered-requires-then-marks-var c =
    let seen : length c.lits-lits.result.now ≡ length c.args.trail.now.lits = ap length c.lits-lits.ensures.value in
    let here = rw c.lits-lits.ensures.value at c.index-lits-place.is in
    let forced = forced_there _ _ _ c.args.from c.loop-place.place c.index-lits-place.result c.requires.forced (omega arith) (omega arith) here in
    rw c.reasons-reasons.ensures forced.0

pub mark-requires-then-marks-var : goal.mark-requires-then-marks-var
mark-requires-then-marks-var c =
    let seen : length c.lits-lits.result.now ≡ length c.args.trail.now.lits = ap length c.lits-lits.ensures.value in
    let here = rw c.lits-lits.ensures.value at c.index-lits-place.is in
    let forced = forced_there _ _ _ c.args.from c.loop-place.place c.index-lits-place.result c.requires.forced (omega arith) (omega arith) here in
    let same = rw c.reasons-reasons.ensures at c.clause_numbered-then-marks-var.ensures in
    numbered_below _ _ _ _ forced.0 same (below_same _ _ _ c.loop-place.invariant.size c.requires.below)

pub loop-place-preserved-then-marks-var : goal.loop-place-preserved-then-marks-var
loop-place-preserved-then-marks-var c =
    let seen : length c.lits-lits.result.now ≡ length c.args.trail.now.lits = ap length c.lits-lits.ensures.value in
    let within : c.loop-place.place - 1 < length c.args.trail.now.lits = omega arith in
    let here = rw c.lits-lits.ensures.value at c.index-lits-place.is in
    let forced = forced_there _ _ _ c.args.from c.loop-place.place c.index-lits-place.result c.requires.forced (omega arith) (omega arith) here in
    let same = rw c.reasons-reasons.ensures at c.clause_numbered-then-marks-var.ensures in
    let before = explains_at _ _ c.args.from c.loop-place.place _ c.loop-place.uses.items (omega arith) c.loop-place.invariant.explains in
    record {
      low = omega arith;
      size = c.mark-then-marks-var.ensures.size ∙ c.loop-place.invariant.size;
      explains =
          rw (c.in_ok-push-2.ensures.items, c.reasons-reasons.ensures)
          (explains_more _ _ (c.loop-place.place - 1) c.index-lits-place.result _ c.loop-place.uses.items within here before _ _ _ forced same c.mark-then-marks-var.ensures);
    }

pub loop-place-preserved : goal.loop-place-preserved
loop-place-preserved c =
    let seen : length c.lits-lits.result.now ≡ length c.args.trail.now.lits = ap length c.lits-lits.ensures.value in
    let within : c.loop-place.place - 1 < length c.args.trail.now.lits = omega arith in
    let here = rw c.lits-lits.ensures.value at c.index-lits-place.is in
    let before = explains_at _ _ c.args.from c.loop-place.place _ c.loop-place.uses.items (omega arith) c.loop-place.invariant.explains in
    let unmarked = rw c.var.ensures.value at c.if-marks-var.false in
    record {
      low = omega arith;
      size = c.loop-place.invariant.size;
      explains = explains_less _ _ (c.loop-place.place - 1) c.index-lits-place.result _ c.loop-place.uses.items within here before (λ marked. cc);
    }

pub returns : goal.returns
returns c =
    explained_from _ _ c.args.from c.loop-place.place c.loop-place.marks c.loop-place.uses.items _ (omega arith) (omega arith) c.reverse.ensures.items c.loop-place.invariant.explains
