use Rattle.std.proofs.Common.{take}
use Rattle.ax_space.specs.Labels.{IsCollected}
use Rattle.ax_space.proofs.labels.slot_atoms.Given as goal

abbrev pub invariant-loop-pair : goal.invariant-loop-pair
invariant-loop-pair l = IsCollected l.scope (take l.pair-index l.atoms) l.all
