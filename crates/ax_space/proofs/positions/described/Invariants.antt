use Rattle.std.proofs.Common.{◌≡◌, take, map}
use Rattle.std.specs.List.{All}
use Rattle.ax_space.specs.Positions.{IsDescribed}
use Rattle.ax_space.proofs.positions.described.Given as goal

abbrev pub invariant-loop-word : goal.invariant-loop-word
invariant-loop-word l = (map (λ p. p.word) l.all ≡ take l.word-index l.words) × All (IsDescribed l.sets l.grow l.slot) l.all
