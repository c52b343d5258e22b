-- What a valuation takes from a term's literals.
use Rattle.std.specs.Prelude.{◌≤◌, ℕ, nat_eq, Bool, if◌then◌else◌, ℤ}
use Rattle.ax_term.specs.Tree.{Tree, word_sym, flag_sym}

-- the new value of the word symbol j, and of the flag symbol j, where the term is it, and else the old
abbrev pub word_read : Tree → ℕ → ℤ → ℤ → ℤ
word_read (word_sym k) j new old = if nat_eq j k then new else old
word_read t j new old = old

abbrev pub flag_read : Tree → ℕ → Bool → Bool → Bool
flag_read (flag_sym k) j new old = if nat_eq j k then new else old
flag_read t j new old = old

-- a word symbol has at most 32 literals
abbrev pub word_lits : Tree → ℕ → Type 0
word_lits (word_sym k) count = count ≤ 32
word_lits t count = Unit {0}
