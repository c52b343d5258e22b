use Rattle.std.proofs.Common.{◌≤◌, arith, ◌∙◌, sym}
use Rattle.ax_sat.proofs.Marking.{more_along, in_skip, in_step, in_all}
use Rattle.ax_sat.proofs.analysis.mark.Goals as goal
use Rattle.ax_sat.proofs.analysis.mark.Goals.{then-var-except+in-False+in_ok-set-in-False, else-var-except}

pub set-requires : goal.set-requires
set-requires c =
    let o = c.clause-lits.ensures.over c.lit-item.result (c.loop-lit.lit-index, c.loop-lit-test.true, sym c.lit-item.is) in
    let high : c.lit-item.result.var ≤ c.args.watch.now.vars = o.1 in
    let v = c.var-in-False.ensures.value in
    let e = c.loop-lit.invariant.more.size in
    let f = c.requires.size in
    omega arith

pub loop-lit-preserved : goal.loop-lit-preserved
loop-lit-preserved c =
    elim c.if-var-except.branch [
      | then-var-except+in-False+in_ok-set-in-False w ↦
          let on = rw w.var-in-False.ensures.value at w.in_ok-set-in-False.ensures.marked in
          rw w.marks-is (record {
            more = more_along _ _ _ c.loop-lit.invariant.more w.set.ensures.more;
            marked = in_step _ _ _ _ c.loop-lit.lit-index c.lit-item.result c.loop-lit-test.true c.lit-item.is c.loop-lit.invariant.marked _ w.set.ensures.more on w.in-False.ensures.0;
          })
      | else-var-except w ↦
          rw w.marks-is (record {
            more = c.loop-lit.invariant.more;
            marked = in_skip _ _ _ _ c.loop-lit.lit-index c.lit-item.result c.loop-lit-test.true c.lit-item.is c.loop-lit.invariant.marked (sym c.var.ensures.value ∙ w.if-var-except.false);
          })
    ]

pub returns-clause-marked : goal.returns-clause-marked
returns-clause-marked c = rw (← c.clause-lits.ensures.value) (in_all _ _ _ _ c.loop-lit.lit-index (omega arith) c.loop-lit.invariant.marked)
