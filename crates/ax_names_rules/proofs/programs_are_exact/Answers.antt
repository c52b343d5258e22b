use Rattle.ax_names_rules.proofs.Sources.{program_exact}
use Rattle.ax_names_rules.proofs.programs_are_exact.Goals as goal

pub returns : goal.returns
returns c = program_exact
