use Rattle.ax_interp_report.proofs.Judged.{one_verdict as law}
use Rattle.ax_interp_report.proofs.laws.one_verdict.Goals as goal

pub returns : goal.returns
returns c = law
