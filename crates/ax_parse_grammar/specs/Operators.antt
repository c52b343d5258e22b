-- Marks as operators.
use Rattle.std.specs.Prelude.{ℕ, Bool, true, false, Option, Some, None}
use Rattle.ax_prog.specs.declared.Bin.{Bin}
use Rattle.ax_prog.specs.declared.Bin.TheVariants as bin
use Rattle.ax_prog.specs.declared.tokens.Mark.TheVariants as m
use Rattle.ax_prog.specs.declared.tokens.Kind.{Kind}
use Rattle.ax_prog.specs.declared.tokens.Kind.TheVariants as k
use Rattle.ax_parse_grammar.specs.declared.operators.Post.{Post}
use Rattle.ax_parse_grammar.specs.declared.operators.Post.TheVariants as post
use Rattle.ax_parse_grammar.specs.declared.tree.Prefix.{Prefix}
use Rattle.ax_parse_grammar.specs.declared.tree.Prefix.TheVariants as pre

-- binary operators (6.5.5 to 6.5.14)
abbrev pub binary_of : Kind → Option Bin
binary_of (k.Mark m.BarBar) = Some bin.Or
binary_of (k.Mark m.AmpAmp) = Some bin.And
binary_of (k.Mark m.Bar) = Some bin.BitOr
binary_of (k.Mark m.Caret) = Some bin.BitXor
binary_of (k.Mark m.Amp) = Some bin.BitAnd
binary_of (k.Mark m.Equal) = Some bin.Eq
binary_of (k.Mark m.NotEqual) = Some bin.Ne
binary_of (k.Mark m.Less) = Some bin.Lt
binary_of (k.Mark m.LessEqual) = Some bin.Le
binary_of (k.Mark m.Greater) = Some bin.Gt
binary_of (k.Mark m.GreaterEqual) = Some bin.Ge
binary_of (k.Mark m.Shl) = Some bin.Shl
binary_of (k.Mark m.Shr) = Some bin.Shr
binary_of (k.Mark m.Plus) = Some bin.Add
binary_of (k.Mark m.Minus) = Some bin.Sub
binary_of (k.Mark m.Star) = Some bin.Mul
binary_of (k.Mark m.Slash) = Some bin.Div
binary_of (k.Mark m.Percent) = Some bin.Rem
binary_of _ = None

-- how tightly a binary operator binds, from `||` to `*`
abbrev pub level : Bin → ℕ
level bin.Or = 1
level bin.And = 2
level bin.BitOr = 3
level bin.BitXor = 4
level bin.BitAnd = 5
level bin.Eq = 6
level bin.Ne = 6
level bin.Lt = 7
level bin.Le = 7
level bin.Gt = 7
level bin.Ge = 7
level bin.Shl = 8
level bin.Shr = 8
level bin.Add = 9
level bin.Sub = 9
level bin.Mul = 10
level bin.Div = 10
level bin.Rem = 10

-- unary operators (6.5.3)
abbrev pub prefix_of : Kind → Option Prefix
prefix_of (k.Mark m.Minus) = Some pre.Neg
prefix_of (k.Mark m.Bang) = Some pre.Not
prefix_of (k.Mark m.Tilde) = Some pre.BitNot
prefix_of (k.Mark m.Star) = Some pre.Deref
prefix_of (k.Mark m.Amp) = Some pre.Address
prefix_of _ = None

-- the marks behind an operand (6.5.2)
abbrev pub post_of : Kind → Option Post
post_of (k.Mark m.OpenSquare) = Some post.Index
post_of (k.Mark m.Dot) = Some post.Member
post_of (k.Mark m.Arrow) = Some post.Arrow
post_of (k.Mark m.OpenRound) = Some post.Call
post_of _ = None

-- the operator of a compound assignment (6.5.16.2)
abbrev pub compound_of : Kind → Option Bin
compound_of (k.Mark m.PlusAssign) = Some bin.Add
compound_of (k.Mark m.MinusAssign) = Some bin.Sub
compound_of (k.Mark m.StarAssign) = Some bin.Mul
compound_of (k.Mark m.SlashAssign) = Some bin.Div
compound_of (k.Mark m.PercentAssign) = Some bin.Rem
compound_of (k.Mark m.AndAssign) = Some bin.BitAnd
compound_of (k.Mark m.OrAssign) = Some bin.BitOr
compound_of (k.Mark m.XorAssign) = Some bin.BitXor
compound_of (k.Mark m.ShlAssign) = Some bin.Shl
compound_of (k.Mark m.ShrAssign) = Some bin.Shr
compound_of _ = None

-- `++` is true, and `--` false (6.5.2.4, 6.5.3.1)
abbrev pub step_of : Kind → Option Bool
step_of (k.Mark m.PlusPlus) = Some true
step_of (k.Mark m.MinusMinus) = Some false
step_of _ = None
