use Rattle.std.proofs.Common.{◌≡◌, take}
use Rattle.ax_prog.proofs.copy.copy_atoms.Given as goal

abbrev pub invariant-loop-part : goal.invariant-loop-part
invariant-loop-part l = l.all ≡ take l.part-index l.atoms
