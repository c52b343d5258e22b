use Rattle.std.proofs.Common.{◌≡◌, ◌≤◌, take, count_by}
use Rattle.ax_rank.specs.Kinds.{is_kind}
use Rattle.ax_rank.proofs.kept.count.Given as goal

abbrev pub invariant-loop-run : goal.invariant-loop-run
invariant-loop-run l = (l.count ≤ l.run-index) × (l.count ≡ count_by (is_kind l.fn.covered l.fn.passed l.fn.place) (take l.run-index l.fn.runs))
