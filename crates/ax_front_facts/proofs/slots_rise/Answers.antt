use Rattle.ax_front_facts.proofs.Risen.{rise}
use Rattle.ax_front_facts.proofs.slots_rise.Goals as goal

pub returns : goal.returns
returns c = λ bytes tokens tree program s t p. rise bytes tokens tree program s t p
