use Rattle.ax_space.proofs.Parts.{atoms-part}
use Rattle.ax_space.proofs.labels.chosen_atoms.Goals as goal

pub returns-then-sets : goal.returns-then-sets
returns-then-sets c =
    let h = rw (c.as_slice.ensures, c.as_slice-then-sets.ensures) at c.in_ok-atoms.ensures in
    rw (c.in_ok-labels.ensures, c.as_slice-then-sets-2.ensures) (atoms-part c.args.sets.now c.args.slot.now c.in_ok-atoms.atoms c.if-sets.true h)
