use Rattle.ax_print_holes.proofs.Sources.{moved_source}
use Rattle.ax_print_holes.proofs.moved_sources_are_spelled.Goals as goal

pub returns : goal.returns
returns c = λ f tree tokens zero s. moved_source f zero s
