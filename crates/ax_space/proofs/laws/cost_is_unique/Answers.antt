use Rattle.ax_space.proofs.Costs.{cost-unique}
use Rattle.ax_space.proofs.laws.cost_is_unique.Goals as goal

pub returns : goal.returns
returns c = cost-unique
