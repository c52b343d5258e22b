use Rattle.std.proofs.Common.{◌≡◌, ◌+◌, ◌-◌, List, [], ◌∷◌, length, drop, take, ap, ◌∙◌, append_assoc, arith}
use Rattle.std.proofs.lemmas.List.{take_rest}
use Rattle.ax_proof.specs.Literal.{Literal}
use Rattle.ax_proof.proofs.Runs.{begins_along}
use Rattle.ax_gates.specs.Gates.{blocks}
use Rattle.ax_gates_adders.proofs.Additions.{length-wrap_outs}
use Rattle.ax_gates_multiplier.specs.Products.{row_sum_gates, row_sum_outs, rows_gates, rows_outs, row_sum_vars}
use Rattle.ax_gates_multiplier.proofs.Steps.{rows_vars-step, length_high, rows_step_blocks, rows_step_outs}
use Rattle.ax_gates_multiplier.proofs.products.add_rows.Goals as goal

pub add_row-requires-clause-room : goal.add_row-requires-clause-room
add_row-requires-clause-room c =
    let e = take_rest c.deref.result.now 1 in
    let l = length_high c.deref.result.now (length c.args.b.now - c.loop-i.i) (omega arith) in
    let s = rows_vars-step (length c.args.b.now) c.loop-i.i (omega arith) in
    rw e (omega arith)

pub loop-i-preserved : goal.loop-i-preserved
loop-i-preserved c =
    let i = c.loop-i.i in
    let n = c.loop-i.cnf.vars in
    let t = c.loop-i.total.items in
    let a = c.args.a.now in
    let b = c.args.b.now in
    let high = drop 1 t in
    let bit = c.index-b-i.result in
    let low = c.index.result.now in
    let k = n + row_sum_vars (length high) in
    let slice = take_rest t 1 in
    let lh = length_high t (length b - i) (omega arith) in
    let lw : length (row_sum_outs n high) ≡ length high = length-wrap_outs (n + length high) high in
    let step = rows_step_blocks n a b t i bit (omega arith) (c.loop-i.invariant.bits) (c.requires.wide) in
    let outs = rows_step_outs n b t i low (omega arith) (omega arith) in
    let vars = rows_vars-step (length b) i (omega arith) in
    let join = append_assoc c.loop-i.cnf.clauses.items (blocks n (row_sum_gates n high (take (length b - i) a) bit)) (blocks k (rows_gates k a (drop (i + 1) b) (row_sum_outs n high))) in
    let join_outs = append_assoc c.loop-i.outs.items (low ∷ []) (rows_outs k (drop (i + 1) b) (row_sum_outs n high)) in
    let part : take (length c.deref.result.now - 1) (drop 1 c.deref.result.now) ≡ high = ap (λ (z : List Literal). take (length z - 1) (drop 1 z)) c.deref.ensures.value ∙ slice in
    let new : c.in_ok-total.total.items ≡ row_sum_outs n high = cc (c.in_ok-total.ensures.outs) in
    let count : c.add_row.new.cnf.vars ≡ k = cc (c.in_ok-total.ensures.vars) in
    let long : length c.in_ok-total.total.items ≡ length b - i = cc in
    record {
      bits = omega arith;
      vars = (let e : row_sum_vars (length high) ≡ row_sum_vars (length b - i) = ap row_sum_vars lh in omega arith);
      clauses = cc (c.in_ok-total.ensures.appends);
      outs = cc (c.in_ok-push.ensures.items);
      begins = begins_along _ _ _ c.loop-i.invariant.begins c.in_ok-total.ensures.begins;
    }
