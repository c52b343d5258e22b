use Rattle.ax_space.proofs.Patching.{made-is-space}
use Rattle.ax_space.proofs.laws.made_is_space.Goals as goal

pub returns : goal.returns
returns c = made-is-space
