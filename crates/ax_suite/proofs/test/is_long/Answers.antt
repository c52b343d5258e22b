use Rattle.ax_suite.proofs.Fronts.{long-values}
use Rattle.ax_suite.proofs.test.is_long.Goals as goal

pub returns : goal.returns
returns c = long-values c.args.values.now
