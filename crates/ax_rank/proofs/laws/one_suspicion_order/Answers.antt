use Rattle.ax_rank.proofs.Lists.{one_suspicion_order as law}
use Rattle.ax_rank.proofs.laws.one_suspicion_order.Goals as goal

pub returns : goal.returns
returns c = law
