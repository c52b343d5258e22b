use Rattle.std.proofs.Common.{◌≡◌}
use Rattle.ax_space.specs.Walks.{level, shorter}
use Rattle.ax_space.proofs.words.position_words.Given as goal

abbrev pub invariant-loop-length : goal.invariant-loop-length
invariant-loop-length l = (l.all ≡ shorter l.grow l.old l.length) × (l.level ≡ level l.grow l.old l.length)
