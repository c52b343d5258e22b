use Rattle.std.proofs.Common.{◌≤◌, arith, sym}
use Rattle.ax_sat.proofs.analysis.are_marked.Goals as goal

pub has-requires : goal.has-requires
has-requires c =
    let o = c.clause-lits.ensures.over c.lit-item.result (c.loop-lit.lit-index, c.loop-lit-test.true, sym c.lit-item.is) in
    let high : c.lit-item.result.var ≤ c.args.watch.now.vars = o.1 in
    let v = c.var-then-var-except.ensures.value in
    let f = c.requires.size in
    omega arith
