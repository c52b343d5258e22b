use Rattle.std.proofs.Common.{w32}
use Rattle.std.proofs.lemmas.Int.{to_z-of_z}
use Rattle.ax_space.proofs.Listing.{slot-trees}
use Rattle.ax_space.proofs.rows.slot_trees.Goals as goal

pub returns : goal.returns
returns c =
    let found = rw c.as_slice.ensures at c.in_ok-all.ensures in
    let labels = rw (to_z-of_z w32 c.args.limit c.ranges.limit) at c.in_ok-labels.ensures in
    slot-trees c.args.within.now.sets c.args.within.now.grow c.args.limit c.args.within.now.budget c.args.slot.now c.in_ok-labels.labels c.in_ok-all.all c.requires labels found
