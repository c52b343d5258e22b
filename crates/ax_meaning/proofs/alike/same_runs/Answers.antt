use Rattle.ax_meaning.proofs.RunsAlike.{same_runs as law}
use Rattle.ax_meaning.proofs.alike.same_runs.Goals as goal

pub returns : goal.returns
returns c = law
