use Rattle.std.proofs.Common.{◌≡◌, drop}
use Rattle.ax_flow.specs.Drafts.{block_declared}
use Rattle.ax_flow.proofs.ops.with_all_declared.Given as goal

abbrev pub invariant-loop-item : goal.invariant-loop-item
invariant-loop-item l = block_declared (drop l.item-index l.items) l.all ≡ block_declared l.items l.fn.vars
