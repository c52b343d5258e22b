use Rattle.ax_sat.proofs.Models.{bits_push}
use Rattle.ax_sat.proofs.descent.bits_of.Goals as goal

pub loop-before-preserved : goal.loop-before-preserved
loop-before-preserved c =
    let said = rw c.new.ensures at c.holds.ensures in
    rw c.in_ok-push.ensures.items (bits_push _ _ _ _ c.loop-before.invariant said)
