use Rattle.ax_names_rules.proofs.Sources.{one}
use Rattle.ax_names_rules.proofs.one_program.Goals as goal

pub returns : goal.returns
returns c = one
