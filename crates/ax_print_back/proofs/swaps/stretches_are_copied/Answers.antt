use Rattle.ax_print_back.proofs.Copied.{copied}
use Rattle.ax_print_back.proofs.swaps.stretches_are_copied.Goals as goal

pub returns : goal.returns
returns c = λ bytes front t ts back s. copied bytes front t ts back s
