use Rattle.ax_print_fills.proofs.Written.{written}
use Rattle.ax_print_fills.proofs.written_numbers.Goals as goal

pub returns : goal.returns
returns c = written
