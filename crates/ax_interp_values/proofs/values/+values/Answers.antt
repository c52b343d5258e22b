use Rattle.ax_meaning.specs.Values.{value_of}
use Rattle.ax_meaning.proofs.Trees.{value_of-Un, value_of-Bin, value_of-Cond, pointer_of-Plus, pointer_of-Minus}
use Rattle.ax_interp_values.proofs.values.+values.Goals as goal

pub value-returns-in-Un : goal.value-returns-in-Un
value-returns-in-Un t c = rw (c.in-Un.is, value_of-Un, ← c.get-in-Un.ensures, ← c.value.ensures) c.unary_on.ensures

pub value-returns-in-Some : goal.value-returns-in-Some
value-returns-in-Some t c =
    rw (c.in-Bin.is, value_of-Bin, ← c.get-in-Bin.ensures, ← c.value-left.ensures)
    (c.in-Some.ensures (value_of c.args.layout.now.program.now c.args.store.now c.in-Bin.b))

pub value-returns-in-None : goal.value-returns-in-None
value-returns-in-None t c =
    rw (c.in-Bin.is, value_of-Bin, ← c.get-in-Bin.ensures, ← c.get-in-None.ensures, ← c.value-left.ensures, ← c.value-in-None.ensures) c.binary_on.ensures

pub value-returns-in-Ok-true : goal.value-returns-in-Ok-true
value-returns-in-Ok-true t c =
    let a = value_of c.args.layout.now.program.now c.args.store.now c.in-Cond.a in
    let b = value_of c.args.layout.now.program.now c.args.store.now c.in-Cond.b in
    let h = rw c.in-Ok-true.field-0-test at (c.in-Ok-true.ensures a b) in
    rw (c.in-Cond.is, value_of-Cond, ← c.get-in-Cond.ensures, ← c.value-in-Cond.ensures, ← h, ← c.get-in-Ok-true.ensures) c.value-in-Ok-true.ensures

pub value-returns-in-Ok-false : goal.value-returns-in-Ok-false
value-returns-in-Ok-false t c =
    let a = value_of c.args.layout.now.program.now c.args.store.now c.in-Cond.a in
    let b = value_of c.args.layout.now.program.now c.args.store.now c.in-Cond.b in
    let h = rw c.in-Ok-false.field-0-test at (c.in-Ok-false.ensures a b) in
    rw (c.in-Cond.is, value_of-Cond, ← c.get-in-Cond.ensures, ← c.value-in-Cond.ensures, ← h, ← c.get-in-Ok-false.ensures) c.value-in-Ok-false.ensures

pub pointer-returns-in-Plus : goal.pointer-returns-in-Plus
pointer-returns-in-Plus t c =
    rw (c.in-Plus.is, pointer_of-Plus, ← c.get-in-Plus.ensures, ← c.get-in-Plus-2.ensures, ← c.pointer-p.ensures, ← c.value.ensures) c.forward_on.ensures

pub pointer-returns-in-Minus : goal.pointer-returns-in-Minus
pointer-returns-in-Minus t c =
    rw (c.in-Minus.is, pointer_of-Minus, ← c.get-in-Minus.ensures, ← c.get-in-Minus-2.ensures, ← c.pointer-p-in-Minus.ensures, ← c.value-in-Minus.ensures) c.backward_on.ensures
