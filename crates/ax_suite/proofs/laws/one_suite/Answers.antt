use Rattle.ax_suite.proofs.Single.{one_suite as law}
use Rattle.ax_suite.proofs.laws.one_suite.Goals as goal

pub returns : goal.returns
returns c = law
