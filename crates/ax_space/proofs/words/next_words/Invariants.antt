use Rattle.std.proofs.Common.{◌≡◌, take}
use Rattle.ax_space.specs.Walks.{next_level}
use Rattle.ax_space.proofs.words.next_words.Given as goal

abbrev pub invariant-loop-word : goal.invariant-loop-word
invariant-loop-word l = l.all ≡ next_level l.grow l.old (take l.word-index l.words)
