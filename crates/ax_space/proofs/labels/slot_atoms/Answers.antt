use Rattle.ax_space.proofs.Parts.{collected-other}
use Rattle.ax_space.proofs.labels.slot_atoms.Goals as goal

pub loop-pair-preserved : goal.loop-pair-preserved
loop-pair-preserved c =
    collected-other c.args.scope.now c.args.atoms.now c.loop-pair.all c.add_atom.new.all c.loop-pair.pair-index c.pair-item.result c.loop-pair-test.true c.pair-item.is c.loop-pair.invariant c.in_ok-add_atom.ensures
