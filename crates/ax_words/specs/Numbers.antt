-- Options whose text is a number.
use Rattle.std.specs.Prelude.{◌&&◌, ◌||◌, ℕ, Bool, false, not, List, [], ◌∷◌, Option, Some, None, length, nat_lt, nat_le, option_map, if◌then◌else◌}
use Rattle.std.specs.Str.Parse.{digits_value}
use Rattle.std.specs.Char.{is_ascii_digit}
use Rattle.std.specs.List.{list_all}
use Rattle.clap.specs.Words.{Text}
use Rattle.ax_words.specs.declared.numbers.NumberOption.{NumberOption}

-- one to ten digits
abbrev pub is_number : Text → Bool
is_number text = nat_lt 0 (length text) && (nat_le (length text) 10 && list_all is_ascii_digit text)

abbrev pub number_of : Text → Option ℕ
number_of text = if is_number text then Some (digits_value 10 text) else None

-- an option whose text is a number
pub record Field : Type 0 where
  pub name : Text
  pub text : Option Text
  pub least : ℕ
  pub most : ℕ
  pub default : ℕ

abbrev pub field_of : NumberOption → Field
field_of o = record { name = o.name.now; text = option_map (λ s. s.now) o.text; least = o.least; most = o.most; default = o.default }

-- a text is given, and it is no number
abbrev pub is_misread_text : Option Text → Bool
is_misread_text None = false
is_misread_text (Some text) = not (is_number text)

abbrev pub is_misread : Field → Bool
is_misread f = is_misread_text f.text

-- the number that stands for the option: the one given, or the default
abbrev pub number_or : ℕ → Option Text → ℕ
number_or default None = default
number_or default (Some text) = digits_value 10 text

abbrev pub value_of : Field → ℕ
value_of f = number_or f.default f.text

abbrev pub is_off_range : Field → Bool
is_off_range f = nat_lt (value_of f) f.least || nat_lt f.most (value_of f)

-- the name of the first option of a kind
abbrev pub first_of_kind : (Field → Bool) → List Field → Option Text
first_of_kind is [] = None
first_of_kind is (f ∷ fs) = if is f then Some f.name else first_of_kind is fs
