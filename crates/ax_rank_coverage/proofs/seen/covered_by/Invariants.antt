use Rattle.std.proofs.Common.{◌≡◌, take}
use Rattle.ax_meaning.specs.Runs.{shown}
use Rattle.ax_rank_coverage.specs.Coverage.{covered_by}
use Rattle.ax_rank_coverage.proofs.seen.covered_by.Given as goal

abbrev pub invariant-loop-id : goal.invariant-loop-id
invariant-loop-id l = l.covered ≡ covered_by (take l.id-index l.candidates) (shown l.run)
