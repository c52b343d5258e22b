-- How many positions a space has at most.
use Rattle.std.specs.Prelude.{ℕ, zero, suc, ◌+◌}

-- the number of words over 1 and 2 of at most so many letters
abbrev pub words : ℕ → ℕ
words zero = 1
words (suc room) = suc (words room + words room)
