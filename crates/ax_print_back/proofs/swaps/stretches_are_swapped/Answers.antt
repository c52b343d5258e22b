use Rattle.ax_print_back.proofs.Swapped.{swapped_in}
use Rattle.ax_print_back.proofs.swaps.stretches_are_swapped.Goals as goal

pub returns : goal.returns
returns c = λ bytes front t ts back text kinds inside s. swapped_in bytes front t ts back text kinds inside s
