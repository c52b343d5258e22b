-- Terms as trees, without numbers: words of 32 bits and flags, which are truth values.
use Rattle.std.specs.Prelude.{ℕ, Bool, true, false, ℤ}
use Rattle.ax_term.specs.declared.WordOp.{WordOp}
use Rattle.ax_term.specs.declared.TestOp.{TestOp}

pub data Tree : Type 0 where
  -- a constant word, and the word symbol of a number
  word : ℤ → Tree
  word_sym : ℕ → Tree
  -- a constant flag, and the flag symbol of a number
  flag : Bool → Tree
  flag_sym : ℕ → Tree
  -- an operator at two words, which gives a word, and a test of two words, which gives a flag
  make : WordOp → Tree → Tree → Tree
  compare : TestOp → Tree → Tree → Tree
  -- negation and conjunction of flags
  no : Tree → Tree
  all : Tree → Tree → Tree
  -- the second where the first is true, else the third
  pick : Tree → Tree → Tree → Tree

-- whether a tree is a word; it is a flag otherwise
abbrev pub is_word : Tree → Bool
is_word (word z) = true
is_word (word_sym k) = true
is_word (flag b) = false
is_word (flag_sym k) = false
is_word (make op a b) = true
is_word (compare op a b) = false
is_word (no f) = false
is_word (all f g) = false
is_word (pick f a b) = true
