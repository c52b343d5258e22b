use Rattle.ax_names_types.proofs.Exact.{exact}
use Rattle.ax_names_types.proofs.verdicts_are_exact.Goals as goal

pub returns : goal.returns
returns c = exact
