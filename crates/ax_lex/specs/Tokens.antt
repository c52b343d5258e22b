-- Which token a text is, and which byte behind it would make it longer.
use Rattle.std.specs.Prelude.{ℕ, ◌+◌, ◌*◌, Bool, ◌&&◌, ◌||◌, if◌then◌else◌, ◌==◌, nat_lt, nat_le, List, [], ◌∷◌, ◌++◌, drop, map, slice_index, Option, Some, None, is_some, option_map, codes, pos}
use Rattle.std.specs.Char.{is_ascii_digit}
use Rattle.std.specs.List.{list_all}
use Rattle.ax_prog.specs.declared.tokens.Keyword.{Keyword}
use Rattle.ax_prog.specs.declared.tokens.Mark.{Mark}
use Rattle.ax_prog.specs.declared.tokens.Kind.{Kind}
use Rattle.ax_prog.specs.declared.tokens.Kind.TheVariants as k
use Rattle.ax_lex.specs.declared.tables.TheConstants.{KEYWORDS, MARKS, FORMATS}
use Rattle.ax_lex.specs.Bytes.{Text, is_letter, is_word, digit, same, last_of}

-- ---- tables

-- what the table has for this text
abbrev pub lookup : {K : Type 0} → List (Text × K) → Text → Option K
lookup [] w = None
lookup (p ∷ ps) w = if same p.0 w then Some p.1 else lookup ps w

-- 6.4.1, with `scanf` and `printf`
abbrev pub keywords : List (Text × Keyword)
keywords = map (λ p. (p.0.now, p.1)) KEYWORDS

unfoldable pub keyword_of : Text → Option Keyword
keyword_of = lookup keywords

-- 6.4.6, those of this language
abbrev pub marks : List (Text × Mark)
marks = map (λ p. (p.0.now, p.1)) MARKS

unfoldable pub mark_of : Text → Option Mark
mark_of = lookup marks

-- the three string literals of this language
abbrev pub formats : List (Text × ℕ)
formats = map (λ p. (p.0.now, p.1)) FORMATS

unfoldable pub format_of : Text → Option ℕ
format_of = lookup formats

-- ---- numbers (6.4.4.1)

-- the value of more digits behind the value n
abbrev pub value : ℕ → ℕ → Text → ℕ
value base n [] = n
value base n (d ∷ ds) = value base (base * n + digit d) ds

-- one digit or more, all below the base
abbrev pub numeral : ℕ → Text → Option ℕ
numeral base [] = None
numeral base (d ∷ ds) = if list_all (λ c. nat_lt (digit c) base) (d ∷ ds) then Some (value base 0 (d ∷ ds)) else None

-- it begins with `0x` or `0X`
abbrev pub is_hex : Text → Bool
is_hex w = slice_index w 0 == 48 && (slice_index w 1 == 120 || slice_index w 1 == 88)

-- hexadecimal, octal with its leading 0, or decimal
abbrev pub base_of : Text → ℕ
base_of w = if is_hex w then 16 else (if slice_index w 0 == 48 then 8 else 10)

abbrev pub number_of : Text → Option ℕ
number_of w = if is_hex w then numeral 16 (drop 2 w) else numeral (if slice_index w 0 == 48 then 8 else 10) w

-- what a number's value may be
abbrev pub small : Option ℕ → Option ℕ
small None = None
small (Some n) = if nat_le n 2147483647 then Some n else None

-- ---- tokens

abbrev pub word_kind : Text → Option Keyword → Kind
word_kind w None = k.Name w
word_kind w (Some word) = k.Keyword word

abbrev pub other_kind : Option ℕ → Option Mark → Option Kind
other_kind (Some f) mark = Some (k.Format f)
other_kind None (Some m) = Some (k.Mark m)
other_kind None None = None

-- The token whose text this is: a digit begins a number, a letter or `_` a keyword or a name, any other byte a format or
-- a mark.
abbrev pub kind_of : Text → Option Kind
kind_of w =
    if is_ascii_digit (slice_index w 0) then option_map (λ n. k.Number (pos n)) (small (number_of w))
    else (if is_letter (slice_index w 0) then (if list_all is_word w then Some (word_kind w (keyword_of w)) else None)
    else other_kind (format_of w) (mark_of w))

-- The byte behind this text would make a longer token of it (6.4p4), or a comment (6.4.9): of a word or number a letter,
-- `_` or digit, and of a hexadecimal number in e a sign too (6.4.8); of any other text what makes a mark, `//` or `/*`.
-- Each front of a mark is a mark, so one byte is enough.
abbrev pub continues : Text → ℕ → Bool
continues w b =
    if is_word (slice_index w 0) then is_word b || (is_hex w && (last_of w == 101 || last_of w == 69) && (b == 43 || b == 45))
    else is_some (mark_of (w ++ b ∷ [])) || (same w (codes "/") && (b == 47 || b == 42))
