use Rattle.std.proofs.Common.{◌≡◌, ◌+◌, ◌++◌, [], drop, length}
use Rattle.ax_flow.specs.Drafts.{body_draft}
use Rattle.ax_flow.proofs.lowering.body_code.Given as goal

abbrev pub invariant-loop-stmt : goal.invariant-loop-stmt
invariant-loop-stmt l = l.code ++ body_draft (drop l.stmt-index l.body) (l.at + length l.code) ≡ body_draft l.body l.at
