use Rattle.ax_print_fills.proofs.Atoms.{atoms_stand}
use Rattle.ax_print_fills.proofs.atoms_are_parts.Goals as goal

pub returns : goal.returns
returns c = atoms_stand
