use Rattle.std.proofs.Common.{◌≡◌, ◌+◌, ◌++◌, drop, length}
use Rattle.ax_flow.specs.Drafts.{block_draft}
use Rattle.ax_flow.proofs.statements.+lowering.Given as goal

abbrev pub invariant-block-loop-item : goal.invariant-block-loop-item
invariant-block-loop-item l =
    l.code ++ block_draft (drop l.item-index l.items) l.vars (l.at + length l.code) ≡ block_draft l.items l.opened l.at
