-- Texts and the classes of their bytes.
use Rattle.std.specs.Prelude.{ℕ, ◌-◌, Bool, true, false, ◌&&◌, ◌||◌, if◌then◌else◌, ◌==◌, nat_le, List, [], ◌∷◌}
use Rattle.std.specs.Char.{is_ascii_digit, is_ascii_alphabetic}

abbrev pub Text : Type 0
Text = List ℕ

-- space, tab
abbrev pub is_blank : ℕ → Bool
is_blank b = b == 32 || b == 9

-- and line feed, carriage return
abbrev pub is_space : ℕ → Bool
is_space b = is_blank b || b == 10 || b == 13

-- a letter or `_` (6.4.2.1)
abbrev pub is_letter : ℕ → Bool
is_letter b = is_ascii_alphabetic b || b == 95

abbrev pub is_word : ℕ → Bool
is_word b = is_letter b || is_ascii_digit b

-- the value of a hexadecimal digit, and 16 for any other byte
abbrev pub digit : ℕ → ℕ
digit b =
    if is_ascii_digit b then b - 48
    else (if nat_le 65 b && nat_le b 70 then b - 55
    else (if nat_le 97 b && nat_le b 102 then b - 87
    else 16))

abbrev pub same : Text → Text → Bool
same [] [] = true
same [] (b ∷ bs) = false
same (a ∷ as') [] = false
same (a ∷ as') (b ∷ bs) = (a == b) && same as' bs

-- the last byte, or 0
abbrev pub last_of : Text → ℕ
last_of [] = 0
last_of (b ∷ []) = b
last_of (a ∷ b ∷ bs) = last_of (b ∷ bs)

-- the first byte, if there is one, is such a byte
abbrev pub AtHead : Text → (ℕ → Type 0) → Type 0
AtHead [] P = Unit {0}
AtHead (b ∷ bs) P = P b
