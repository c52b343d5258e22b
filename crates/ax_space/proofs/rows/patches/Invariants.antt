use Rattle.std.proofs.Common.{◌≡◌, take, map}
use Rattle.std.specs.List.{filter}
use Rattle.ax_space.specs.Rows.{has_cost, patch_of}
use Rattle.ax_space.proofs.rows.patches.Given as goal

abbrev pub invariant-loop-row : goal.invariant-loop-row
invariant-loop-row l = l.all ≡ map patch_of (filter (has_cost l.cost) (take l.row-index l.rows))
