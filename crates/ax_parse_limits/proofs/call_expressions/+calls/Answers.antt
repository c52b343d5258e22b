use Rattle.std.proofs.Common.{◌≡◌, ℕ, suc, ◌+◌, ◌*◌, ◌<◌, ◌≤◌, Option, Some, sym, ap, ◌∙◌, arith}
use Rattle.ax_parse_limits.specs.Calls.{◌or◌, maybe, first_call, front, behind_front}
use Rattle.ax_parse_limits.proofs.CallLayers.{size, size-Binary, size-Cond, size-Index, behind_front-Binary, behind_front-Cond, behind_front-Index, from_front, front_smaller, down}
use Rattle.ax_parse_limits.proofs.call_expressions.+calls.Goals as goal

pub behind_front-first_call-requires : goal.behind_front-first_call-requires
behind_front-first_call-requires t c =
    let w : size c.get.result.now < size c.args.tree.now = rw (c.in-Binary.is, size-Binary, ← c.get.ensures) (omega arith) in omega arith

pub behind_front-first_call-requires-in-Cond : goal.behind_front-first_call-requires-in-Cond
behind_front-first_call-requires-in-Cond t c =
    let w : size c.get-in-Cond.result.now < size c.args.tree.now = rw (c.in-Cond.is, size-Cond, ← c.get-in-Cond.ensures) (omega arith) in omega arith

pub behind_front-first_call-requires-in-Cond-2 : goal.behind_front-first_call-requires-in-Cond-2
behind_front-first_call-requires-in-Cond-2 t c =
    let w : size c.get-in-Cond-2.result.now < size c.args.tree.now = rw (c.in-Cond.is, size-Cond, ← c.get-in-Cond-2.ensures) (omega arith) in omega arith

pub behind_front-first_call-requires-in-Index : goal.behind_front-first_call-requires-in-Index
behind_front-first_call-requires-in-Index t c =
    let w : size c.get-in-Index.result.now < size c.args.tree.now = rw (c.in-Index.is, size-Index, ← c.get-in-Index.ensures) (omega arith) in omega arith

pub behind_front-returns-in-Binary : goal.behind_front-returns-in-Binary
behind_front-returns-in-Binary t c = rw (c.in-Binary.is, behind_front-Binary, ← c.get.ensures) c.first_call.ensures

pub behind_front-returns-in-Cond : goal.behind_front-returns-in-Cond
behind_front-returns-in-Cond t c = rw (c.in-Cond.is, behind_front-Cond, ← c.get-in-Cond.ensures, ← c.get-in-Cond-2.ensures, ← c.first_call-in-Cond.ensures, ← c.first_call-in-Cond-2.ensures) c.or.ensures

pub behind_front-returns-in-Index : goal.behind_front-returns-in-Index
behind_front-returns-in-Index t c = rw (c.in-Index.is, behind_front-Index, ← c.get-in-Index.ensures) c.first_call-in-Index.ensures

pub first_call-loop-operand-init : goal.first_call-loop-operand-init
first_call-loop-operand-init t c = (ap (λ (o : Option ℕ). maybe first_call (front c.args.tree.now) or o) c.behind_front-found.ensures ∙ sym (from_front c.args.tree.now), omega arith)

pub first_call-behind_front-requires : goal.first_call-behind_front-requires
first_call-behind_front-requires t c =
    let w : size c.in-Some.operand.now < size c.loop-operand.node.now = front_smaller c.loop-operand.node.now c.in-Some.operand.now (sym c.in-Some.ensures) in
    let v : size c.loop-operand.node.now ≤ size c.args.tree.now = c.loop-operand.invariant.1 in
    omega arith

pub first_call-loop-operand-smaller : goal.first_call-loop-operand-smaller
first_call-loop-operand-smaller t c = front_smaller c.loop-operand.node.now c.in-Some.operand.now (sym c.in-Some.ensures)

pub first_call-loop-operand-preserved : goal.first_call-loop-operand-preserved
first_call-loop-operand-preserved t c =
    let node = c.loop-operand.node.now in
    let operand = c.in-Some.operand.now in
    let h : front node ≡ Some operand = sym c.in-Some.ensures in
    let w : size operand < size node = front_smaller node operand h in
    let v : size node ≤ size c.args.tree.now = c.loop-operand.invariant.1 in
    (ap (λ (o : Option ℕ). maybe first_call (front operand) or o) (c.or-found.ensures ∙ ap (λ (o : Option ℕ). o or c.loop-operand.found) c.behind_front.ensures) ∙ down node operand c.loop-operand.found h ∙ c.loop-operand.invariant.0, omega (arith, w, v))
