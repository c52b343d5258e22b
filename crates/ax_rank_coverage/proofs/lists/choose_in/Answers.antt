use Rattle.ax_rank_coverage.proofs.Others.{others}
use Rattle.ax_rank_coverage.proofs.lists.choose_in.Goals as goal

pub returns-clause-others : goal.returns-clause-others
returns-clause-others g c = others _ c.args.rankers.now c.args.at _
