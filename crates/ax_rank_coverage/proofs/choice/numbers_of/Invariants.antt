use Rattle.std.proofs.Common.{◌≡◌, ◌+◌, map, take}
use Rattle.ax_rank_coverage.proofs.choice.numbers_of.Given as goal

abbrev pub invariant-loop-standing : goal.invariant-loop-standing
invariant-loop-standing l = l.numbers ≡ map (λ s. s.place + 1) (take l.standing-index l.order)
