use Rattle.std.proofs.Common.{◌≡◌, ◌++◌, take}
use Rattle.ax_flow.specs.Drafts.{ends_draft}
use Rattle.ax_flow.proofs.ops.end_all.Given as goal

abbrev pub invariant-loop-var : goal.invariant-loop-var
invariant-loop-var l = l.code ≡ l.fn.code ++ ends_draft (take l.var-index l.vars)
