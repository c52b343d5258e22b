use Rattle.ax_front_facts.proofs.Slots.{slots_fit}
use Rattle.ax_front_facts.proofs.slots_fit.Goals as goal

pub returns : goal.returns
returns c = slots_fit
