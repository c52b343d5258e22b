use Rattle.std.proofs.Common.{◌≡◌, ◌++◌, take, drop, map, length}
use Rattle.ax_flow.specs.Drafts.{filled}
use Rattle.ax_flow.proofs.ops.fill.Given as goal

abbrev pub invariant-loop-at : goal.invariant-loop-at
invariant-loop-at l =
    (l.at-end ≡ length l.fn.code) × (l.code ≡ take l.at (map (filled l.broke l.continued) l.fn.code) ++ drop l.at l.fn.code)
