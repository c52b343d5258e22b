use Rattle.ax_front_facts.proofs.Risen.{lie}
use Rattle.ax_front_facts.proofs.slots_lie.Goals as goal

pub returns : goal.returns
returns c = λ bytes tokens tree program s t p. lie bytes tokens tree program s t p
