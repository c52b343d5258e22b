use Rattle.ax_rank_coverage.proofs.Orders.{one_candidate_order as law}
use Rattle.ax_rank_coverage.proofs.laws.one_candidate_order.Goals as goal

pub returns : goal.returns
returns c = law c.one_suspicion_order.ensures
