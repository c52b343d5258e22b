use Rattle.ax_front.proofs.Bodies.{outside}
use Rattle.ax_front.proofs.programs_call_outside.Goals as goal

pub returns : goal.returns
returns c = outside
