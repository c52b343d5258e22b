use Rattle.std.proofs.Common.{◌≡◌, ◌+◌, take}
use Rattle.ax_meaning.specs.Runs.{evaluations}
use Rattle.ax_least.proofs.are_few.Given as goal

abbrev pub invariant-loop-id : goal.invariant-loop-id
invariant-loop-id l = l.left + evaluations (take l.id-index l.ids) l.counts ≡ l.most
