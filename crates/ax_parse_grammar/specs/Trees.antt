-- Trees.
use Rattle.ax_prog.specs.declared.Span.{Span}
use Rattle.ax_parse_grammar.specs.declared.tree.Expr.{Expr, Name, Number, Unary', Binary', Cond', Index', Member', Arrow', Call'}

-- where an expression stands
abbrev pub span_of : Expr → Span
span_of (Name at x) = at
span_of (Number at n) = at
span_of (Unary' at op s row) = at
span_of (Binary' at op s row t row2) = at
span_of (Cond' at s row t row2 u row3) = at
span_of (Index' at s row t row2) = at
span_of (Member' at s row x) = at
span_of (Arrow' at s row x) = at
span_of (Call' at s row t row2) = at
