use Rattle.ax_space.proofs.Patching.{patch-fits}
use Rattle.ax_space.proofs.laws.patch_fits.Goals as goal

pub returns : goal.returns
returns c = patch-fits
