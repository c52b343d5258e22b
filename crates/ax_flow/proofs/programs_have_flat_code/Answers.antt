use Rattle.ax_flow.proofs.Drawn.{has_flat_code}
use Rattle.ax_flow.proofs.Layers.{drafts}
use Rattle.ax_flow.proofs.programs_have_flat_code.Goals as goal

pub returns : goal.returns
returns c = has_flat_code
