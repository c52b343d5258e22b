use Rattle.std.proofs.Common.{◌≡◌, take}
use Rattle.ax_top.proofs.choosing.copy_numbers.Given as goal

abbrev pub invariant-loop-number : goal.invariant-loop-number
invariant-loop-number l = l.numbers ≡ take l.number-index l.picked
