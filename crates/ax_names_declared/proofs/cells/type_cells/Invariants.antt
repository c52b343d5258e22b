use Rattle.std.proofs.Common.{◌≡◌, ◌*◌, ◌≤◌}
use Rattle.ax_names_declared.specs.Cells.{capped, cells_of}
use Rattle.ax_names_declared.proofs.Measured.{depth}
use Rattle.ax_names_declared.proofs.cells.type_cells.Given as goal

abbrev pub invariant-loop-at : goal.invariant-loop-at
invariant-loop-at l = (l.times ≤ 4097) × (capped (l.times * cells_of l.cells l.at) ≡ capped (cells_of l.cells l.ty))

abbrev pub decreases-loop-at : goal.decreases-loop-at
decreases-loop-at l = depth l.at
