use Rattle.ax_repair_laws.proofs.Unchanged.{unchanged-same, same-unchanged}
use Rattle.ax_repair_laws.proofs.unchanged_is_same.Goals as goal

pub returns : goal.returns
returns c = λ old new. (unchanged-same old new, same-unchanged old new)
