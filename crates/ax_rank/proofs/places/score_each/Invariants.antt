use Rattle.std.proofs.Common.{◌≡◌, ◌≤◌}
use Rattle.ax_rank.specs.Suspicion.{score_of, standings}
use Rattle.ax_rank.proofs.places.score_each.Given as goal

abbrev pub invariant-loop-place : goal.invariant-loop-place
invariant-loop-place g l =
    (l.place ≤ l.fn.places)
    × (l.standings.items ≡ standings (score_of ((goal.Ranker-dyn g l.fn.ranker.now).formula l.fn.ranker.now.1) ((goal.Ranker-dyn g l.fn.ranker.now).runs l.fn.ranker.now.1)) l.place)
