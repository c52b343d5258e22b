use Rattle.std.proofs.Common.{◌+◌, length, append_assoc}
use Rattle.std.proofs.lemmas.Result.{IfOk-equal}
use Rattle.ax_gates.specs.Gates.{blocks}
use Rattle.ax_gates.specs.Words.{fresh, lit_false}
use Rattle.ax_gates.proofs.Circuits.{length-fresh}
use Rattle.ax_gates_adders.specs.Adders.{wrap_gates}
use Rattle.ax_gates_multiplier.specs.Products.{row_gates}
use Rattle.ax_gates_multiplier.proofs.Steps.{row_sum_blocks}
use Rattle.ax_gates_multiplier.proofs.products.add_row.Goals as goal

pub sum-requires-clause-same_length : goal.sum-requires-clause-same_length
sum-requires-clause-same_length c =
    let l = length-fresh c.args.cnf.now.vars c.args.a.now in
    cc (c.requires.same_length, c.in_ok-bits.ensures.outs, c.deref.ensures.value)

pub returns-clause-appends : goal.returns-clause-appends
returns-clause-appends c =
    let n = c.args.cnf.now.vars in
    let e = row_sum_blocks n c.args.total.now c.args.a.now c.args.b in
    let s =
    append_assoc c.args.cnf.now.clauses.items (blocks n (row_gates c.args.a.now c.args.b))
    (blocks (n + length c.args.a.now) (wrap_gates (n + length c.args.a.now) c.args.total.now (fresh n c.args.a.now) lit_false))
    in
    IfOk-equal c.sum.result _ _ _ c.sum.ensures.appends (cc (c.in_ok-bits.ensures.appends, c.in_ok-bits.ensures.outs, c.in_ok-bits.ensures.vars, c.deref.ensures.value))
