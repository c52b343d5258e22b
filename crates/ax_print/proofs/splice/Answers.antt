use Rattle.std.proofs.Common.{arith}
use Rattle.ax_print.proofs.Splicing.{AreParts-within, AreParts-next}
use Rattle.ax_print.proofs.splice.Goals as goal

pub slice_bounds-append-end : goal.slice_bounds-append-end
slice_bounds-append-end c =
    let next = AreParts-next _ _ _ _ c.part-item.result c.loop-part-test.true c.part-item.is c.loop-part.invariant.rest in
    let within = AreParts-within _ _ _ next.2 in
    omega (arith, next.0, next.1, within)
