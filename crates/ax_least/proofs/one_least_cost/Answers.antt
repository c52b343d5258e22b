use Rattle.ax_least.proofs.Laws.{one_least_cost as law}
use Rattle.ax_least.proofs.one_least_cost.Goals as goal

pub returns : goal.returns
returns c = law
