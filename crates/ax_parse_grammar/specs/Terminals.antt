-- The tokens that the grammar names itself, and where tokens stand.
use Rattle.std.specs.Prelude.{◌≡◌, ℕ, Bool, true, false, nat_eq, List, [], ◌∷◌, map}
use Rattle.ax_prog.specs.declared.Span.{Span}
use Rattle.ax_prog.specs.declared.tokens.Keyword.TheVariants as kw
use Rattle.ax_prog.specs.declared.tokens.Mark.TheVariants as m
use Rattle.ax_prog.specs.declared.tokens.Kind.{Kind}
use Rattle.ax_prog.specs.declared.tokens.Kind.TheVariants as k
use Rattle.ax_prog.specs.declared.tokens.Token.{Token}
use Rattle.ax_parse_grammar.specs.declared.terminals.Terminal.{Terminal}
use Rattle.ax_parse_grammar.specs.declared.terminals.Terminal.TheVariants as w
use Rattle.ax_parse_grammar.specs.declared.tree.Name.{Name}

abbrev pub kind_of : Terminal → Kind
kind_of w.Int = k.Keyword kw.Int
kind_of w.Struct = k.Keyword kw.Struct
kind_of w.Void = k.Keyword kw.Void
kind_of w.If = k.Keyword kw.If
kind_of w.Else = k.Keyword kw.Else
kind_of w.While = k.Keyword kw.While
kind_of w.Do = k.Keyword kw.Do
kind_of w.For = k.Keyword kw.For
kind_of w.Break = k.Keyword kw.Break
kind_of w.Continue = k.Keyword kw.Continue
kind_of w.Return = k.Keyword kw.Return
kind_of w.Scanf = k.Keyword kw.Scanf
kind_of w.Printf = k.Keyword kw.Printf
kind_of w.OpenRound = k.Mark m.OpenRound
kind_of w.CloseRound = k.Mark m.CloseRound
kind_of w.OpenSquare = k.Mark m.OpenSquare
kind_of w.CloseSquare = k.Mark m.CloseSquare
kind_of w.OpenCurly = k.Mark m.OpenCurly
kind_of w.CloseCurly = k.Mark m.CloseCurly
kind_of w.Semicolon = k.Mark m.Semicolon
kind_of w.Comma = k.Mark m.Comma
kind_of w.Dot = k.Mark m.Dot
kind_of w.Arrow = k.Mark m.Arrow
kind_of w.Assign = k.Mark m.Assign
kind_of w.Question = k.Mark m.Question
kind_of w.Colon = k.Mark m.Colon
kind_of w.PlusPlus = k.Mark m.PlusPlus
kind_of w.MinusMinus = k.Mark m.MinusMinus
kind_of w.Star = k.Mark m.Star
kind_of w.Minus = k.Mark m.Minus
kind_of w.Amp = k.Mark m.Amp
kind_of w.Format = k.Format 0

-- the token is this terminal
abbrev pub Is : Terminal → Token → Type 0
Is what t = t.kind ≡ kind_of what

-- the tokens are these terminals, in turn
abbrev pub Are : List Terminal → List Token → Type 0
Are whats ts = map (λ t. t.kind) ts ≡ map kind_of whats

-- `Is` as a test
abbrev pub is : Terminal → Kind → Bool
is w.Int (k.Keyword kw.Int) = true
is w.Int _ = false
is w.Struct (k.Keyword kw.Struct) = true
is w.Struct _ = false
is w.Void (k.Keyword kw.Void) = true
is w.Void _ = false
is w.If (k.Keyword kw.If) = true
is w.If _ = false
is w.Else (k.Keyword kw.Else) = true
is w.Else _ = false
is w.While (k.Keyword kw.While) = true
is w.While _ = false
is w.Do (k.Keyword kw.Do) = true
is w.Do _ = false
is w.For (k.Keyword kw.For) = true
is w.For _ = false
is w.Break (k.Keyword kw.Break) = true
is w.Break _ = false
is w.Continue (k.Keyword kw.Continue) = true
is w.Continue _ = false
is w.Return (k.Keyword kw.Return) = true
is w.Return _ = false
is w.Scanf (k.Keyword kw.Scanf) = true
is w.Scanf _ = false
is w.Printf (k.Keyword kw.Printf) = true
is w.Printf _ = false
is w.OpenRound (k.Mark m.OpenRound) = true
is w.OpenRound _ = false
is w.CloseRound (k.Mark m.CloseRound) = true
is w.CloseRound _ = false
is w.OpenSquare (k.Mark m.OpenSquare) = true
is w.OpenSquare _ = false
is w.CloseSquare (k.Mark m.CloseSquare) = true
is w.CloseSquare _ = false
is w.OpenCurly (k.Mark m.OpenCurly) = true
is w.OpenCurly _ = false
is w.CloseCurly (k.Mark m.CloseCurly) = true
is w.CloseCurly _ = false
is w.Semicolon (k.Mark m.Semicolon) = true
is w.Semicolon _ = false
is w.Comma (k.Mark m.Comma) = true
is w.Comma _ = false
is w.Dot (k.Mark m.Dot) = true
is w.Dot _ = false
is w.Arrow (k.Mark m.Arrow) = true
is w.Arrow _ = false
is w.Assign (k.Mark m.Assign) = true
is w.Assign _ = false
is w.Question (k.Mark m.Question) = true
is w.Question _ = false
is w.Colon (k.Mark m.Colon) = true
is w.Colon _ = false
is w.PlusPlus (k.Mark m.PlusPlus) = true
is w.PlusPlus _ = false
is w.MinusMinus (k.Mark m.MinusMinus) = true
is w.MinusMinus _ = false
is w.Star (k.Mark m.Star) = true
is w.Star _ = false
is w.Minus (k.Mark m.Minus) = true
is w.Minus _ = false
is w.Amp (k.Mark m.Amp) = true
is w.Amp _ = false
is w.Format (k.Format n) = nat_eq n 0
is w.Format _ = false

-- the name that a token of this text is
abbrev pub named : Token → List ℕ → Name
named t x = record { span = t.span; text = x }

-- the end of the last token
abbrev pub end_of : ℕ → List Token → ℕ
end_of at [] = at
end_of at (t ∷ ts) = end_of t.span.to ts

-- from the first token to the last
abbrev pub extent : List Token → Span
extent [] = record { from = 0; to = 0 }
extent (t ∷ ts) = record { from = t.span.from; to = end_of t.span.to ts }
