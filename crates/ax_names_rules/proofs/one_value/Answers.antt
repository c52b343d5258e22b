use Rattle.ax_names_rules.proofs.Laws.{one_given}
use Rattle.ax_names_rules.proofs.one_value.Goals as goal

pub returns : goal.returns
returns c = one_given
