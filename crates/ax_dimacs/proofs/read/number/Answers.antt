use Rattle.std.proofs.Common.{◌≡◌, rules, arith, true, refl}
use Rattle.ax_dimacs.specs.Clauses.{is_number}
use Rattle.ax_dimacs.proofs.Numbers.{first-small, digit-next}
use Rattle.ax_dimacs.proofs.read.number.Goals as goal

pub overflow_mul-n : goal.overflow_mul-n
overflow_mul-n c =
    let is : is_number c.args.text.now ≡ true = search rules in
    omega (arith, first-small c.args.text.now c.loop-b.b-index is, c.loop-b.invariant)

pub overflow_add-n : goal.overflow_add-n
overflow_add-n c =
    let is : is_number c.args.text.now ≡ true = search rules in
    omega (arith, first-small c.args.text.now c.loop-b.b-index is, c.loop-b.invariant)

pub loop-b-preserved : goal.loop-b-preserved
loop-b-preserved c =
    let is : is_number c.args.text.now ≡ true = search rules in
    digit-next c.args.text.now c.loop-b.b-index c.loop-b.n _ is c.loop-b-test.true refl c.loop-b.invariant
