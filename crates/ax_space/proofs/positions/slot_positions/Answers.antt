use Rattle.ax_space.proofs.Places.{are-positions}
use Rattle.ax_space.proofs.positions.slot_positions.Goals as goal

pub returns : goal.returns
returns c =
    are-positions c.args.sets.now c.args.grow c.args.slot.now c.in_ok-words.words c.in_ok-all.all c.in_ok-words.ensures (rw c.as_slice.ensures at c.in_ok-all.ensures.words) c.in_ok-all.ensures.described
