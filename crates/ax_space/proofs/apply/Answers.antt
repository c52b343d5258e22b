use Rattle.ax_space.proofs.Patching.{patch-fitting}
use Rattle.ax_space.proofs.apply.Goals as goal

pub put_trees-requires : goal.put_trees-requires
put_trees-requires c = rw (c.chosen.ensures, c.as_slice.ensures) (patch-fitting c.args.program.now c.args.space.now c.args.patch.now c.requires.space c.requires.patch c.requires.fit)
