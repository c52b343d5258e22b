use Rattle.std.proofs.Common.{w32}
use Rattle.std.proofs.lemmas.Int.{to_z-of_z}
use Rattle.ax_space.proofs.Parts.{all-labels, small-limit}
use Rattle.ax_space.proofs.labels.allowed_labels.Goals as goal

pub returns : goal.returns
returns c =
    let numbers = rw (to_z-of_z w32 c.args.limit c.ranges.limit) at c.in_ok-numbers.ensures in
    rw (c.in_ok-append-2.ensures, c.in_ok-append.ensures, c.in_ok-all.ensures)
    (all-labels c.args.sets.now c.args.slot.now c.args.limit c.in_ok-atoms.atoms c.in_ok-numbers.numbers (small-limit c.args.limit c.ranges.limit) c.in_ok-atoms.ensures numbers)
