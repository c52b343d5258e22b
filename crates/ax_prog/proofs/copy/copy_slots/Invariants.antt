use Rattle.std.proofs.Common.{◌≡◌, take}
use Rattle.ax_prog.proofs.copy.copy_slots.Given as goal

abbrev pub invariant-loop-slot : goal.invariant-loop-slot
invariant-loop-slot l = l.all ≡ take l.slot-index l.slots
