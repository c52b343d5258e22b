use Rattle.ax_space.proofs.Patching.{bounded}
use Rattle.ax_space.proofs.Space.new.Goals as goal

pub invariant_of-result : goal.invariant_of-result
invariant_of-result c = rw (c.in_ok-chosen.ensures, c.in_ok-slots.ensures) (bounded c.args.program.now c.args.chosen.now c.args.grow c.requires.chosen c.requires.grow)
