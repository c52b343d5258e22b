use Rattle.std.proofs.Common.{◌≡◌, take, map}
use Rattle.std.specs.List.{filter}
use Rattle.ax_space.specs.Rows.{row_within, with_head}
use Rattle.ax_space.proofs.rows.rows_with.Given as goal

abbrev pub invariant-loop-tail : goal.invariant-loop-tail
invariant-loop-tail l = l.all ≡ filter (row_within l.budget) (map (with_head l.head) (take l.tail-index l.tails))
