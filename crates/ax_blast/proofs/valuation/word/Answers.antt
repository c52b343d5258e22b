use Rattle.std.proofs.Common.{◌*◌, ◌<◌, ◌^◌, ◌+◌, arith}
use Rattle.std.proofs.Math.Facts.{Fits-of_lt}
use Rattle.ax_proof.specs.Assignment.{assigned}
use Rattle.ax_blast.proofs.Valuations.{bits_room}
use Rattle.ax_blast.proofs.valuation.word.Goals as goal

pub overflow_mul-bits : goal.overflow_mul-bits
overflow_mul-bits c =
    let h = bits_room (assigned c.args.model.now.bits.items) c.args.lits.now c.loop-at.at c.loop-at.bits c.requires c.loop-at-test.true c.loop-at.invariant.bits in
    let small : 2 * c.loop-at.bits < 2 ^ 32 = omega arith in
    Fits-of_lt small

pub overflow_add-bits : goal.overflow_add-bits
overflow_add-bits c =
    let h = bits_room (assigned c.args.model.now.bits.items) c.args.lits.now c.loop-at.at c.loop-at.bits c.requires c.loop-at-test.true c.loop-at.invariant.bits in
    let d = c.digit_of.ensures.below in
    let small : 2 * c.loop-at.bits + c.digit_of.result < 2 ^ 32 = omega arith in
    Fits-of_lt small
