use Rattle.std.proofs.Common.{◌≡◌, ◌++◌, ◌-◌, drop}
use Rattle.ax_meaning.specs.Acts.{listed}
use Rattle.ax_interp_acts.proofs.declaring.listed_cells.Given as goal

abbrev pub invariant-loop-at : goal.invariant-loop-at
invariant-loop-at l = l.cells ++ listed (l.count - l.at) (drop l.at l.numbers) ≡ listed l.count l.numbers
