use Rattle.ax_names_types.proofs.Carried.{value_carried}
use Rattle.ax_names_types.proofs.atoms_in_order.Goals as goal

pub returns : goal.returns
returns c = value_carried
