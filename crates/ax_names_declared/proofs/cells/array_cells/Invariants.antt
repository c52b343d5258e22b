use Rattle.std.proofs.Common.{◌≡◌, ◌≤◌, length, drop}
use Rattle.ax_names_declared.specs.Cells.{capped}
use Rattle.ax_names_declared.specs.Verdicts.{product}
use Rattle.ax_names_declared.proofs.cells.array_cells.Given as goal

abbrev pub invariant-loop-at : goal.invariant-loop-at
invariant-loop-at l = (l.at ≤ length l.sizes) × (l.count ≡ capped (product (drop l.at l.sizes) l.unit))

abbrev pub decreases-loop-at : goal.decreases-loop-at
decreases-loop-at l = l.at
