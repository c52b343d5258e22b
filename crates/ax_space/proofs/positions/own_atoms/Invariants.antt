use Rattle.std.proofs.Common.{◌≡◌, take, map}
use Rattle.ax_space.specs.Positions.{atom_in}
use Rattle.ax_space.proofs.positions.own_atoms.Given as goal

abbrev pub invariant-loop-pair : goal.invariant-loop-pair
invariant-loop-pair l = l.all ≡ map atom_in (take l.pair-index l.atoms)
