use Rattle.ax_least.proofs.Laws.{least_is_repair as law}
use Rattle.ax_least.proofs.least_is_repair.Goals as goal

pub returns : goal.returns
returns c = law
