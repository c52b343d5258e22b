use Rattle.ax_front_facts.proofs.Slots.{slots_writable}
use Rattle.ax_front_facts.proofs.slots_are_writable.Goals as goal

pub returns : goal.returns
returns c = slots_writable
