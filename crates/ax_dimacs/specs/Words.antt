-- The words of a clause file.
use Rattle.std.specs.Prelude.{ℕ, ◌+◌, ◌==◌, ◌||◌, ◌&&◌, Bool, true, not, List, [], ◌∷◌, length, take, if◌then◌else◌}
use Rattle.std.specs.List.{prefix_len}
use Rattle.ax_dimacs.specs.declared.words.Words.{Words}
use Rattle.ax_dimacs.specs.declared.words.Word as declared

-- bytes without a space between them, and the place of the first
pub record Word : Type 0 where
  pub at : ℕ
  pub text : List ℕ

-- a space, a tab, a carriage return or a line feed
abbrev pub is_space : ℕ → Bool
is_space b = b == 32 || (b == 9 || (b == 13 || b == 10))

abbrev pub is_inside : ℕ → Bool
is_inside b = not (is_space b)

abbrev pub is_in_line : ℕ → Bool
is_in_line b = not (b == 10)

-- the bytes before the first space
abbrev pub word_of : List ℕ → List ℕ
word_of s = take (prefix_len is_inside s) s

-- where a byte stands: first in its line, behind a space, behind a byte of a word, or in a comment
pub data Place : Type 0 where
  First : Place
  Between : Place
  Within : Place
  Comment : Place

-- where the byte behind a space stands
abbrev pub behind : ℕ → Place
behind b = if b == 10 then First else Between

-- the words of a text whose first byte stands there, at that place of the file; a line that begins with `c` has none
abbrev pub words : Place → ℕ → List ℕ → List Word
words p at [] = []
words First at (b ∷ s) =
    if b == 99 then words Comment (at + 1) s
    else if is_space b then words (behind b) (at + 1) s
    else record { at = at; text = word_of (b ∷ s) } ∷ words Within (at + 1) s
words Between at (b ∷ s) =
    if is_space b then words (behind b) (at + 1) s
    else record { at = at; text = word_of (b ∷ s) } ∷ words Within (at + 1) s
words Within at (b ∷ s) = if is_space b then words (behind b) (at + 1) s else words Within (at + 1) s
words Comment at (b ∷ s) = words (if b == 10 then First else Comment) (at + 1) s

-- the words of a file
abbrev pub words_of : List ℕ → List Word
words_of bytes = words First 0 bytes

-- where the next byte stands, behind a whole word or a space
abbrev pub place : Bool → Place
place fresh = if fresh then First else Between

-- the words that are left
abbrev pub left : Words → List Word
left w = words (place w.fresh) w.at w.rest.now

-- the length of the file
abbrev pub end : Words → ℕ
end w = w.at + length w.rest.now

-- a word as read, and its meaning
abbrev pub word : declared.Word → Word
word w = record { at = w.at; text = w.text.now }

-- a text that has ended or that begins with a word
abbrev pub is_word_start : Bool → List ℕ → Bool
is_word_start fresh [] = true
is_word_start fresh (b ∷ s) = is_inside b && not (fresh && b == 99)
