use Rattle.ax_space.proofs.Costs.{cost-exists}
use Rattle.ax_space.proofs.laws.cost_exists.Goals as goal

pub returns : goal.returns
returns c = cost-exists
