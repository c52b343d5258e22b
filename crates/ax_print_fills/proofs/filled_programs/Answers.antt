use Rattle.ax_print_fills.proofs.Sources.{filled}
use Rattle.ax_print_fills.proofs.filled_programs.Goals as goal

pub returns : goal.returns
returns c = filled
