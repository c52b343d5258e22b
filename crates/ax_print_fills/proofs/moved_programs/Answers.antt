use Rattle.ax_print_fills.proofs.Sources.{moved}
use Rattle.ax_print_fills.proofs.moved_programs.Goals as goal

pub returns : goal.returns
returns c = moved
