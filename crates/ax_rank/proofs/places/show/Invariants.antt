use Rattle.std.proofs.Common.{◌≡◌, ◌≤◌, ◌++◌, take, length}
use Rattle.ax_rank.proofs.places.show.Given as goal

abbrev pub invariant-loop-run : goal.invariant-loop-run
invariant-loop-run g l =
    (l.run-index ≤ length l.fn.shown)
    × ((goal.Ranker-dyn g l.ranker.now).runs l.ranker.now.1 ≡ (goal.Ranker-dyn g l.fn.ranker.now).runs l.fn.ranker.now.1 ++ take l.run-index l.fn.shown)
    × ((goal.Ranker-dyn g l.ranker.now).title l.ranker.now.1 ≡ (goal.Ranker-dyn g l.fn.ranker.now).title l.fn.ranker.now.1)
    × ((goal.Ranker-dyn g l.ranker.now).formula l.ranker.now.1 ≡ (goal.Ranker-dyn g l.fn.ranker.now).formula l.fn.ranker.now.1)
