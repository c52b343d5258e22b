use Rattle.std.proofs.Common.{◌≡◌, take, map}
use Rattle.std.specs.List.{filter}
use Rattle.ax_space.specs.Walks.{has_word, with_letter}
use Rattle.ax_space.proofs.words.longer.Given as goal

abbrev pub invariant-loop-letter : goal.invariant-loop-letter
invariant-loop-letter l = l.all ≡ filter (has_word l.grow l.old) (map (with_letter l.word) (take l.letter-index l.letters))
