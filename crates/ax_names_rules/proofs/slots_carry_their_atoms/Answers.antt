use Rattle.ax_names_rules.proofs.Carried.{program_carries}
use Rattle.ax_names_rules.proofs.slots_carry_their_atoms.Goals as goal

pub returns : goal.returns
returns c = program_carries
