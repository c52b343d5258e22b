-- How the code looks for the first part that is too large; private contracts alone cite this.
use Rattle.std.specs.Prelude.{ℕ, zero, suc, ◌+◌, nat_lt, Bool, true, false, if◌then◌else◌, List, [], ◌∷◌, Option, Some, None}
use Rattle.ax_prog.specs.declared.tokens.Keyword.TheVariants as kw
use Rattle.ax_prog.specs.declared.tokens.Mark.TheVariants as m
use Rattle.ax_prog.specs.declared.tokens.Kind.{Kind}
use Rattle.ax_prog.specs.declared.tokens.Kind.TheVariants as k
use Rattle.ax_prog.specs.declared.tokens.Token.{Token}
use Rattle.ax_parse_grammar.specs.Reading.{choose}
use Rattle.ax_parse_limits.specs.declared.counts.Class.{Class}
use Rattle.ax_parse_limits.specs.declared.counts.Class.TheVariants as c
use Rattle.ax_parse_limits.specs.declared.counts.Count.{Count}
use Rattle.ax_parse_limits.specs.Wholes.{start_of}

abbrev pub class_of : Kind → Class
class_of (k.Name x) = c.Operand
class_of (k.Number n) = c.Operand
class_of (k.Format n) = c.Link
class_of (k.Keyword kw.Return) = c.Return
class_of (k.Keyword kw.For) = c.For
class_of (k.Keyword kw.Scanf) = c.Scanf
class_of (k.Keyword _) = c.Other
class_of (k.Mark m.OpenRound) = c.OpenRound
class_of (k.Mark m.CloseRound) = c.Close
class_of (k.Mark m.OpenSquare) = c.OpenSquare
class_of (k.Mark m.CloseSquare) = c.Close
class_of (k.Mark m.OpenCurly) = c.Other
class_of (k.Mark m.CloseCurly) = c.Other
class_of (k.Mark m.Semicolon) = c.Semicolon
class_of (k.Mark m.Comma) = c.Comma
class_of (k.Mark m.Dot) = c.Link
class_of (k.Mark m.Arrow) = c.Link
class_of (k.Mark m.Colon) = c.Link
class_of (k.Mark m.PlusPlus) = c.Other
class_of (k.Mark m.MinusMinus) = c.Other
class_of (k.Mark m.Assign) = c.Sets
class_of (k.Mark m.PlusAssign) = c.Sets
class_of (k.Mark m.MinusAssign) = c.Sets
class_of (k.Mark m.StarAssign) = c.Sets
class_of (k.Mark m.SlashAssign) = c.Sets
class_of (k.Mark m.PercentAssign) = c.Sets
class_of (k.Mark m.AndAssign) = c.Sets
class_of (k.Mark m.OrAssign) = c.Sets
class_of (k.Mark m.XorAssign) = c.Sets
class_of (k.Mark m.ShlAssign) = c.Sets
class_of (k.Mark m.ShrAssign) = c.Sets
class_of (k.Mark _) = c.Operator

-- ---- how many nodes a part has

-- a part that starts there, so many parentheses deep, behind a value or not, with so many nodes so far
abbrev pub count : ℕ → ℕ → Bool → ℕ → Count
count at deep value n = record { start = at; depth = deep; value = value; nodes = n }

abbrev pub over : Count → Option ℕ
over x = if nat_lt 400 x.nodes then Some x.start else None

-- behind `)` or `]`, so many parentheses deep
abbrev pub closed : Count → ℕ → Option Count
closed x zero = None
closed x (suc deep) = Some (count x.start deep true x.nodes)

-- behind a comma, so many parentheses deep: outside of all it begins the next of many parts, where this one isn't too large
abbrev pub separated : Bool → Count → ℕ → ℕ → Option Count
separated many x at zero = if many then (if nat_lt 400 x.nodes then None else Some (count at 0 false 0)) else None
separated many x at (suc deep) = Some (count x.start (suc deep) false x.nodes)

-- behind one more token, or none where the token ends the part; `at` is the start of the token behind it
abbrev pub turn : Bool → Count → ℕ → Class → Option Count
turn many x at c.Operand = Some (count x.start x.depth true (suc x.nodes))
turn many x at c.Operator = Some (count x.start x.depth false (suc x.nodes))
turn many x at c.OpenRound = Some (count x.start (suc x.depth) false (if x.value then suc x.nodes else x.nodes))
turn many x at c.OpenSquare = Some (count x.start (suc x.depth) false (suc x.nodes))
turn many x at c.Close = closed x x.depth
turn many x at c.Link = Some (count x.start x.depth false x.nodes)
turn many x at c.Comma = separated many x at x.depth
turn many x at _ = None

abbrev pub large : Bool → Count → List Token → Option ℕ
large many x [] = over x
large many x (t ∷ ts) = choose (turn many x (start_of ts) (class_of t.kind)) (over x) (λ y. large many y ts)

-- the first part that is too large, of those with which the tokens begin
abbrev pub large_in : Bool → List Token → Option ℕ
large_in many ts = large many (count (start_of ts) 0 false 0) ts

-- ---- where parts begin

infixr 10 ◌or◌
abbrev pub ◌or◌ : Option ℕ → Option ℕ → Option ℕ
None or q = q
(Some at) or q = Some at

-- behind a token: `head` says that a `for` goes on to its first `;`, and `shut` that the token opens no part
abbrev pub opened : Bool → Class → List Token → Option ℕ
opened head c.OpenRound ts = large_in true ts
opened head c.OpenSquare ts = large_in false ts
opened head c.Sets ts = large_in false ts
opened head c.Return ts = large_in false ts
opened head c.Semicolon ts = if head then large_in false ts else None
opened head _ ts = None

abbrev pub behind : Bool → Bool → Class → List Token → Option ℕ
behind head shut class ts = if shut then None else opened head class ts

abbrev pub goes_on_head : Bool → Class → Bool
goes_on_head head c.For = true
goes_on_head head c.Semicolon = false
goes_on_head head _ = head

abbrev pub shuts : Class → Bool
shuts c.For = true
shuts c.Scanf = true
shuts _ = false

abbrev pub scan : Bool → Bool → List Token → Option ℕ
scan head shut [] = None
scan head shut (t ∷ ts) = behind head shut (class_of t.kind) ts or scan (goes_on_head head (class_of t.kind)) (shuts (class_of t.kind)) ts
