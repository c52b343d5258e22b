use Rattle.std.proofs.Common.{◌≡◌}
use Rattle.std.specs.Prelude.{replicate}
use Rattle.ax_meaning.specs.declared.Cell.TheVariants.{Empty}
use Rattle.ax_interp_acts.proofs.declaring.blank_cells.Given as goal

abbrev pub invariant-loop-at : goal.invariant-loop-at
invariant-loop-at l = l.cells ≡ replicate l.at Empty
