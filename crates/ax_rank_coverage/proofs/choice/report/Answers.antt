use Rattle.ax_rank_coverage.proofs.Shown.{all-seen}
use Rattle.ax_rank_coverage.proofs.choice.report.Goals as goal

pub returns-clause-seen : goal.returns-clause-seen
returns-clause-seen g c =
    all-seen c.args.program.now c.args.steps c.args.tests.now ((goal.Ranker-dyn g c.args.ranker.now).runs c.args.ranker.now.1) _ c.in_ok-order.ensures.seen

pub returns-in_err-text-clause-seen : goal.returns-in_err-text-clause-seen
returns-in_err-text-clause-seen g c =
    all-seen c.args.program.now c.args.steps c.args.tests.now ((goal.Ranker-dyn g c.args.ranker.now).runs c.args.ranker.now.1) _ c.in_ok-order.ensures.seen
