use Rattle.std.proofs.Common.{◌≡◌, take, map}
use Rattle.std.specs.List.{flat_map, filter}
use Rattle.ax_space.specs.Rows.{row_within, with_head}
use Rattle.ax_space.proofs.rows.rows_over.Given as goal

abbrev pub invariant-loop-head : goal.invariant-loop-head
invariant-loop-head l = l.all ≡ filter (row_within l.budget) (flat_map (λ head. map (with_head head) l.tails) (take l.head-index l.heads))
