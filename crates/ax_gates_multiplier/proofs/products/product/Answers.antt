use Rattle.std.proofs.Common.{◌≡◌, ◌+◌, length, drop, append_assoc, arith}
use Rattle.std.proofs.lemmas.List.{take_rest, length-drop}
use Rattle.std.proofs.lemmas.Result.{IfOk-equal}
use Rattle.ax_gates.specs.Gates.{blocks}
use Rattle.ax_gates.specs.Words.{fresh}
use Rattle.ax_gates.proofs.Circuits.{length-fresh}
use Rattle.ax_gates_multiplier.specs.Products.{row_gates, rows_gates}
use Rattle.ax_gates_multiplier.proofs.Steps.{prod_blocks, prod_vars_of}
use Rattle.ax_gates_multiplier.proofs.products.product.Goals as goal

pub add_rows-requires-clause-bits : goal.add_rows-requires-clause-bits
add_rows-requires-clause-bits c =
    let slice = take_rest c.args.b.now 1 in
    let high = length-drop 1 c.args.b.now in
    let long = length-fresh c.args.cnf.now.vars c.args.a.now in
    let first : length c.in_ok-first.first.items ≡ length c.args.a.now = cc (c.in_ok-first.ensures.outs) in
    rw slice (omega arith)

pub add_rows-requires-clause-room : goal.add_rows-requires-clause-room
add_rows-requires-clause-room c =
    let slice = take_rest c.args.b.now 1 in
    let high = length-drop 1 c.args.b.now in
    let vars = prod_vars_of (length c.args.a.now) (length (drop 1 c.args.b.now)) (omega arith) in
    let first = c.in_ok-first.ensures.vars in
    rw slice (omega arith)

pub returns-clause-appends : goal.returns-clause-appends
returns-clause-appends c =
    let n = c.args.cnf.now.vars in
    let a = c.args.a.now in
    let b = c.args.b.now in
    let bit = c.index-b-0.result in
    let slice = take_rest b 1 in
    let e = prod_blocks n a b bit (omega arith) in
    let s = append_assoc c.args.cnf.now.clauses.items (blocks n (row_gates a bit)) (blocks (n + length a) (rows_gates (n + length a) a (drop 1 b) (fresh n a))) in
    IfOk-equal c.add_rows.result _ _ _ c.add_rows.ensures.appends (cc (c.in_ok-first.ensures.appends, c.in_ok-first.ensures.outs, c.in_ok-first.ensures.vars))

pub returns-clause-vars : goal.returns-clause-vars
returns-clause-vars c =
    let slice = take_rest c.args.b.now 1 in
    let high = length-drop 1 c.args.b.now in
    let vars = prod_vars_of (length c.args.a.now) (length (drop 1 c.args.b.now)) (omega arith) in
    IfOk-equal c.add_rows.result _ _ _ c.add_rows.ensures.vars (let first = c.in_ok-first.ensures.vars in rw slice (omega arith))
