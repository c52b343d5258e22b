use Rattle.std.proofs.Common.{◌≡◌, ◌+◌, ◌≤◌, drop}
use Rattle.ax_names_declared.specs.Cells.{capped, cells_in}
use Rattle.ax_names_declared.proofs.cells.field_cells.Given as goal

abbrev pub invariant-loop-field : goal.invariant-loop-field
invariant-loop-field l = (l.sum ≤ 4097) × (capped (l.sum + cells_in l.cells (drop l.field-index l.fields)) ≡ capped (cells_in l.cells l.fields))
