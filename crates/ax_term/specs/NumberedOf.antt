-- What a node of the code is in clauses.
use Rattle.std.specs.Prelude.{ℕ}
use Rattle.ax_term.specs.Numbered.{Numbered, word_at, word_sym_at, flag_at, flag_sym_at, make_at, compare_at, no_at, all_at, pick_at}
use Rattle.ax_term.specs.declared.Node.{Node}
use Rattle.ax_term.specs.declared.Node.TheVariants.{Word, WordSym, Flag, FlagSym, Make, Compare, No, All, Pick}

-- the term of a number and a node
abbrev pub numbered_of : ℕ → Node → Numbered
numbered_of n (Word z) = word_at n z
numbered_of n (WordSym k) = word_sym_at n k
numbered_of n (Flag b) = flag_at n b
numbered_of n (FlagSym k) = flag_sym_at n k
numbered_of n (Make op a b) = make_at n op a b
numbered_of n (Compare op a b) = compare_at n op a b
numbered_of n (No f) = no_at n f
numbered_of n (All f g) = all_at n f g
numbered_of n (Pick f a b) = pick_at n f a b
