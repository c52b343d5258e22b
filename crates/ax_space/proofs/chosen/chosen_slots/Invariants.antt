use Rattle.std.proofs.Common.{◌≡◌, take}
use Rattle.ax_space.specs.Chosen.{slots_of}
use Rattle.ax_space.proofs.chosen.chosen_slots.Given as goal

abbrev pub invariant-loop-id : goal.invariant-loop-id
invariant-loop-id l = l.slots ≡ slots_of l.program (take l.id-index l.chosen)
