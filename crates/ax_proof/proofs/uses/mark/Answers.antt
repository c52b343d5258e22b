use Rattle.std.proofs.Common.{◌<◌, length, arith, sym}
use Rattle.ax_proof.proofs.Markings.{marks_none, marks_more, marks_all}
use Rattle.ax_proof.proofs.uses.mark.Goals as goal

pub bounds-marks-var : goal.bounds-marks-var
bounds-marks-var c =
    let here = rw c.lits-lit-items.ensures.value at c.lit-item.is in
    let within = rw c.lits-lit-items.ensures.value at c.loop-lit-test.true in
    let below : c.lit-item.result.var < length c.args.marks.now = c.requires c.lit-item.result (c.loop-lit.lit-index, within, sym here) in
    let size = c.loop-lit.invariant.size in
    rw c.var.ensures.value (omega arith)

pub loop-lit-preserved : goal.loop-lit-preserved
loop-lit-preserved c =
    let here = rw c.lits-lit-items.ensures.value at c.lit-item.is in
    let within = rw c.lits-lit-items.ensures.value at c.loop-lit-test.true in
    let below : c.lit-item.result.var < length c.args.marks.now = c.requires c.lit-item.result (c.loop-lit.lit-index, within, sym here) in
    rw c.var.ensures.value (marks_more _ c.loop-lit.lit-index c.lit-item.result _ _ c.loop-lit-test.true c.lit-item.is below c.loop-lit.invariant)
