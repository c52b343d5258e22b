use Rattle.ax_space.proofs.Costs.{constants-are-ints}
use Rattle.ax_space.proofs.laws.constants_are_ints.Goals as goal

pub returns : goal.returns
returns c = constants-are-ints
