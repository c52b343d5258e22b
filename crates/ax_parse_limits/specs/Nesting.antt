-- How deeply tokens nest. A token list nests too deeply where the measure exceeds 200 behind one of its tokens.
use Rattle.std.specs.Prelude.{◌≡◌, ℕ, ◌+◌, ◌-◌, Bool, true, false, not, ◌&&◌, if◌then◌else◌, ◌==◌, nat_lt, List, [], ◌∷◌, ◌++◌, length, Option, Some, None, sum}
use Rattle.ax_prog.specs.declared.tokens.Keyword.TheVariants as kw
use Rattle.ax_prog.specs.declared.tokens.Mark.TheVariants as m
use Rattle.ax_prog.specs.declared.tokens.Kind.{Kind}
use Rattle.ax_prog.specs.declared.tokens.Kind.TheVariants as k
use Rattle.ax_prog.specs.declared.tokens.Token.{Token}
use Rattle.ax_parse_limits.specs.declared.nesting.Class.{Class}
use Rattle.ax_parse_limits.specs.declared.nesting.Class.TheVariants as c
use Rattle.ax_parse_limits.specs.declared.nesting.State.{State}

abbrev pub class_of : Kind → Class
class_of (k.Keyword kw.If) = c.Rises
class_of (k.Keyword kw.Else) = c.Rises
class_of (k.Keyword kw.While) = c.Rises
class_of (k.Keyword kw.For) = c.Rises
class_of (k.Keyword kw.Do) = c.Rises
class_of (k.Mark m.Question) = c.Rises
class_of (k.Mark m.Minus) = c.Prefix
class_of (k.Mark m.Bang) = c.Prefix
class_of (k.Mark m.Tilde) = c.Prefix
class_of (k.Mark m.Star) = c.Prefix
class_of (k.Mark m.Amp) = c.Prefix
class_of (k.Mark m.OpenRound) = c.OpenRound
class_of (k.Mark m.CloseRound) = c.CloseRound
class_of (k.Mark m.OpenSquare) = c.OpenSquare
class_of (k.Mark m.CloseSquare) = c.CloseSquare
class_of (k.Mark m.OpenCurly) = c.OpenCurly
class_of (k.Mark m.CloseCurly) = c.CloseCurly
class_of (k.Mark m.Semicolon) = c.Semicolon
class_of (k.Mark m.Comma) = c.Comma
class_of _ = c.Other

-- a mark that may be unary is binary behind a name, a number, `)` or `]`
abbrev pub is_value : Kind → Bool
is_value (k.Name x) = true
is_value (k.Number n) = true
is_value (k.Mark m.CloseRound) = true
is_value (k.Mark m.CloseSquare) = true
is_value _ = false

abbrev pub next_is_else : List Token → Bool
next_is_else [] = false
next_is_else (t ∷ ts) = is_else t.kind
  where
    is_else : Kind → Bool
    is_else (k.Keyword kw.Else) = true
    is_else _ = false

-- the number of open `(`, `[` and `{`, and the counters of all open levels, the file's too
abbrev pub measure : State → ℕ
measure s = s.round + s.square + length s.around + (sum s.around + s.here)

abbrev pub all_but_last : List ℕ → List ℕ
all_but_last [] = []
all_but_last (x ∷ []) = []
all_but_last (x ∷ y ∷ ys) = x ∷ all_but_last (y ∷ ys)

abbrev pub last_or_zero : List ℕ → ℕ
last_or_zero [] = 0
last_or_zero (x ∷ []) = x
last_or_zero (x ∷ y ∷ ys) = last_or_zero (y ∷ ys)

-- A `}` ends a level, and the statements that the level around it has counted, unless an `else` goes on with them. Where no
-- level is open it does nothing.
abbrev pub closed : State → Bool → List ℕ → State
closed s stays [] = s
closed s stays (x ∷ xs) = record s { around = all_but_last (x ∷ xs); total = s.total - last_or_zero (x ∷ xs); here = if stays then last_or_zero (x ∷ xs) else 0 }

-- behind a token of this class; was: a value stood before it, stays: an `else` comes next
abbrev pub turned : State → Bool → Class → Bool → State
turned s was c.OpenRound stays = record s { round = s.round + 1 }
turned s was c.CloseRound stays = record s { round = s.round - 1 }
turned s was c.OpenSquare stays = record s { square = s.square + 1 }
turned s was c.CloseSquare stays = record s { square = s.square - 1 }
turned s was c.OpenCurly stays = record s { around = s.around ++ s.here ∷ []; total = s.total + s.here; here = 0 }
turned s was c.CloseCurly stays = closed s stays s.around
turned s was c.Rises stays = record s { here = s.here + 1 }
turned s was c.Prefix stays = record s { here = if was then s.here else s.here + 1 }
turned s was c.Semicolon stays = record s { here = if (s.round == 0) && not stays then 0 else s.here }
turned s was c.Comma stays = record s { here = if (s.round == 0) && (s.square == 0) then 0 else s.here }
turned s was c.Other stays = s

abbrev pub step : State → Class → Bool → Bool → State
step s class value stays = turned (record s { value = value }) s.value class stays

-- before the first token
abbrev pub file : State
file = record { around = []; total = 0; here = 0; round = 0; square = 0; value = false }

abbrev pub deep_from : State → List Token → Option ℕ
deep_from s [] = None
deep_from s (t ∷ ts) = let next = step s (class_of t.kind) (is_value t.kind) (next_is_else ts) in if nat_lt 200 (measure next) then Some t.span.from else deep_from next ts

-- the start of the first token behind which the measure exceeds 200
abbrev pub first_too_deep : List Token → Option ℕ
first_too_deep ts = deep_from file ts
