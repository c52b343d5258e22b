use Rattle.ax_interp_report.proofs.Judged.{fares}
use Rattle.ax_interp_report.proofs.verdict.verdict_in.Goals as goal

pub returns : goal.returns
returns c = fares c.args.flow.now.program c.args.steps c.args.test.now _ _ c.verdict_on.result c.as_slice.ensures c.in_ok-run.ensures c.verdict_on.ensures
