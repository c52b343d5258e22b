use Rattle.std.proofs.Common.{get_or}
use Rattle.ax_space.proofs.Slices.{item-is}
use Rattle.ax_space.proofs.Parts.{collected-variable}
use Rattle.ax_space.proofs.labels.variables.Goals as goal

pub loop-id-preserved : goal.loop-id-preserved
loop-id-preserved c =
    collected-variable c.args.scope.now c.loop-id.all c.add_atom.new.all c.loop-id.id-index (get_or c.args.scope.now c.loop-id.id-index (record { 0 = 0 })) c.loop-id-test.true
    (item-is c.args.scope.now c.loop-id.id-index (record { 0 = 0 }) c.loop-id-test.true) c.loop-id.invariant c.in_ok-add_atom.ensures
