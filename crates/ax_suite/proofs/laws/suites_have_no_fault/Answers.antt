use Rattle.ax_suite.proofs.Single.{suites_have_no_fault as law}
use Rattle.ax_suite.proofs.laws.suites_have_no_fault.Goals as goal

pub returns : goal.returns
returns c = law
