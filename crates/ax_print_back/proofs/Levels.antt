-- At which levels tokens spell an expression.
use Rattle.std.proofs.Common.{◌≡◌, ℕ, ◌≤◌, ◌<◌, List, subst, arith}
use Rattle.ax_prog.specs.declared.Bin.{Bin}
use Rattle.ax_prog.specs.declared.Bin.TheVariants as bin
use Rattle.ax_prog.specs.declared.tokens.Token.{Token}
use Rattle.ax_parse_grammar.specs.declared.tree.Expr.{Expr, Name, Number, Unary', Binary', Cond', Index', Member', Arrow', Call'}
use Rattle.ax_parse_grammar.specs.Operators.{level}
use Rattle.ax_parse_grammar.specs.Expressions.{Spells}

-- the highest level at which an expression with no parentheses around it is spelled; 12 where every level will do
abbrev pub top : Expr → ℕ
top (Name at x) = 12
top (Number at n) = 12
top (Unary' at op s row) = 11
top (Binary' at op s row t row2) = level op
top (Cond' at s row t row2 u row3) = 0
top (Index' at s row t row2) = 12
top (Member' at s row x) = 12
top (Arrow' at s row x) = 12
top (Call' at s row t row2) = 12

pub below_unary : (op : Bin) → level op < 11
below_unary bin.Or = omega arith
below_unary bin.And = omega arith
below_unary bin.BitOr = omega arith
below_unary bin.BitXor = omega arith
below_unary bin.BitAnd = omega arith
below_unary bin.Eq = omega arith
below_unary bin.Ne = omega arith
below_unary bin.Lt = omega arith
below_unary bin.Le = omega arith
below_unary bin.Gt = omega arith
below_unary bin.Ge = omega arith
below_unary bin.Shl = omega arith
below_unary bin.Shr = omega arith
below_unary bin.Add = omega arith
below_unary bin.Sub = omega arith
below_unary bin.Mul = omega arith
below_unary bin.Div = omega arith
below_unary bin.Rem = omega arith

-- what is spelled at a level is spelled at each lower one
pub lower : {l n : ℕ} {a : Expr} {ts : List Token} → l ≤ n → Spells n a ts → Spells l a ts
lower le (Spells.name t h) = Spells.name t h
lower le (Spells.number t h) = Spells.number t h
lower le (Spells.parens first last o c p) = Spells.parens first last o c p
lower le (Spells.index first last m o c p q) = Spells.index first last (omega arith) o c p q
lower le (Spells.member dot t m d n p) = Spells.member dot t (omega arith) d n p
lower le (Spells.arrow mark t m d n p) = Spells.arrow mark t (omega arith) d n p
lower le (Spells.call first last m o c p q) = Spells.call first last (omega arith) o c p q
lower le (Spells.unary t m o p) = Spells.unary t (omega arith) o p
lower le (Spells.binary t m o p q) = Spells.binary t (omega arith) o p q
lower {l = l} {a = a} {ts = ts} le (Spells.cond question colon q k p r v) =
    let none : 0 ≡ l = omega arith in
    subst (λ (n : ℕ). Spells n a ts) none (Spells.cond question colon q k p r v)
