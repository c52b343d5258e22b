use Rattle.ax_space.proofs.Costs.{costed-is-patch}
use Rattle.ax_space.proofs.laws.costed_is_patch.Goals as goal

pub returns : goal.returns
returns c = costed-is-patch
