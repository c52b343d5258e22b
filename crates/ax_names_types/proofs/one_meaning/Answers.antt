use Rattle.ax_names_types.proofs.Exact.{one}
use Rattle.ax_names_types.proofs.one_meaning.Goals as goal

pub returns : goal.returns
returns c = one
