-- What the tokens of the grammar are to expressions, and the nodes of each kind of expression.
use Rattle.std.proofs.Common.{◌≡◌, ℕ, ◌+◌, ℤ, Bool, List, [], ◌∷◌, Option, Some, None, refl, ap}
use Rattle.ax_prog.specs.declared.Span.{Span}
use Rattle.ax_prog.specs.declared.Bin.{Bin}
use Rattle.ax_prog.specs.declared.tokens.Mark.TheVariants as m
use Rattle.ax_prog.specs.declared.tokens.Kind.{Kind}
use Rattle.ax_prog.specs.declared.tokens.Kind.TheVariants as k
use Rattle.ax_parse_grammar.specs.declared.tree.Prefix.{Prefix}
use Rattle.ax_parse_grammar.specs.declared.tree.Name.{Name}
use Rattle.ax_parse_grammar.specs.declared.tree.Expr.{Expr}
use Rattle.ax_parse_grammar.specs.declared.tree.Expr.TheVariants as e
use Rattle.ax_parse_grammar.specs.declared.tree.Expr.TheBlock.{shape-the_row-Expr-0, hidden-the_row-Expr-0, shape-the_row-Expr-1, hidden-the_row-Expr-1}
use Rattle.ax_parse_grammar.specs.Operators.{binary_of, prefix_of, compound_of, step_of}
use Rattle.ax_parse_limits.specs.declared.counts.Class.{Class}
use Rattle.ax_parse_limits.specs.declared.counts.Class.TheVariants as c
use Rattle.ax_parse_limits.specs.Nodes.{nodes, nodes_of_row}
use Rattle.ax_parse_limits.specs.Scan.{class_of}
use denote.Hole.Carrier

pub binary_class : (kind : Kind) (op : Bin) → binary_of kind ≡ Some op → class_of kind ≡ c.Operator
binary_class (k.Mark m.BarBar) op h = refl
binary_class (k.Mark m.AmpAmp) op h = refl
binary_class (k.Mark m.Bar) op h = refl
binary_class (k.Mark m.Caret) op h = refl
binary_class (k.Mark m.Amp) op h = refl
binary_class (k.Mark m.Equal) op h = refl
binary_class (k.Mark m.NotEqual) op h = refl
binary_class (k.Mark m.Less) op h = refl
binary_class (k.Mark m.LessEqual) op h = refl
binary_class (k.Mark m.Greater) op h = refl
binary_class (k.Mark m.GreaterEqual) op h = refl
binary_class (k.Mark m.Shl) op h = refl
binary_class (k.Mark m.Shr) op h = refl
binary_class (k.Mark m.Plus) op h = refl
binary_class (k.Mark m.Minus) op h = refl
binary_class (k.Mark m.Star) op h = refl
binary_class (k.Mark m.Slash) op h = refl
binary_class (k.Mark m.Percent) op h = refl
binary_class _ op h = cc

pub prefix_class : (kind : Kind) (op : Prefix) → prefix_of kind ≡ Some op → class_of kind ≡ c.Operator
prefix_class (k.Mark m.Minus) op h = refl
prefix_class (k.Mark m.Bang) op h = refl
prefix_class (k.Mark m.Tilde) op h = refl
prefix_class (k.Mark m.Star) op h = refl
prefix_class (k.Mark m.Amp) op h = refl
prefix_class _ op h = cc

pub compound_class : (kind : Kind) (op : Bin) → compound_of kind ≡ Some op → class_of kind ≡ c.Sets
compound_class (k.Mark m.PlusAssign) op h = refl
compound_class (k.Mark m.MinusAssign) op h = refl
compound_class (k.Mark m.StarAssign) op h = refl
compound_class (k.Mark m.SlashAssign) op h = refl
compound_class (k.Mark m.PercentAssign) op h = refl
compound_class (k.Mark m.AndAssign) op h = refl
compound_class (k.Mark m.OrAssign) op h = refl
compound_class (k.Mark m.XorAssign) op h = refl
compound_class (k.Mark m.ShlAssign) op h = refl
compound_class (k.Mark m.ShrAssign) op h = refl
compound_class _ op h = cc

pub step_class : (kind : Kind) (up : Bool) → step_of kind ≡ Some up → class_of kind ≡ c.Other
step_class (k.Mark m.PlusPlus) up h = refl
step_class (k.Mark m.MinusMinus) up h = refl
step_class _ up h = cc

pub name_class : (kind : Kind) (x : List ℕ) → kind ≡ k.Name x → class_of kind ≡ c.Operand
name_class kind x h = ap class_of h

pub number_class : (kind : Kind) (n : ℤ) → kind ≡ k.Number n → class_of kind ≡ c.Operand
number_class kind n h = ap class_of h

-- ---- nodes

-- of a list of expressions
abbrev pub nodes_of_all : List Expr → ℕ
nodes_of_all [] = 0
nodes_of_all (x ∷ xs) = nodes x + nodes_of_all xs

pub nodes-Unary : (at : Span) (op : Prefix) (a : Expr) → nodes (e.Unary at op a) ≡ nodes a + 1
unfolding shape-the_row-Expr-0 hidden-the_row-Expr-0 Carrier.hidden
nodes-Unary at op a = refl

pub nodes-Binary : (at : Span) (op : Bin) (a b : Expr) → nodes (e.Binary at op a b) ≡ nodes a + nodes b + 1
unfolding shape-the_row-Expr-0 hidden-the_row-Expr-0 Carrier.hidden
nodes-Binary at op a b = refl

pub nodes-Cond : (at : Span) (c a b : Expr) → nodes (e.Cond at c a b) ≡ nodes c + nodes a + nodes b + 1
unfolding shape-the_row-Expr-0 hidden-the_row-Expr-0 Carrier.hidden
nodes-Cond at c a b = refl

pub nodes-Index : (at : Span) (a i : Expr) → nodes (e.Index at a i) ≡ nodes a + nodes i + 1
unfolding shape-the_row-Expr-0 hidden-the_row-Expr-0 Carrier.hidden
nodes-Index at a i = refl

pub nodes-Member : (at : Span) (a : Expr) (x : Name) → nodes (e.Member at a x) ≡ nodes a + 1
unfolding shape-the_row-Expr-0 hidden-the_row-Expr-0 Carrier.hidden
nodes-Member at a x = refl

pub nodes-Arrow : (at : Span) (a : Expr) (x : Name) → nodes (e.Arrow at a x) ≡ nodes a + 1
unfolding shape-the_row-Expr-0 hidden-the_row-Expr-0 Carrier.hidden
nodes-Arrow at a x = refl

row_nodes : (xs : List Expr) → nodes_of_row (hidden-the_row-Expr-1 xs) ≡ nodes_of_all xs
unfolding shape-the_row-Expr-0 hidden-the_row-Expr-0 shape-the_row-Expr-1 hidden-the_row-Expr-1 Carrier.hidden
row_nodes [] = refl
row_nodes (x ∷ xs) = ap (λ (n : ℕ). nodes x + n) (row_nodes xs)

pub nodes-Call : (at : Span) (f : Expr) (xs : List Expr) → nodes (e.Call at f xs) ≡ nodes f + nodes_of_all xs + 1
unfolding shape-the_row-Expr-0 hidden-the_row-Expr-0 shape-the_row-Expr-1 hidden-the_row-Expr-1 Carrier.hidden
nodes-Call at f xs = ap (λ (n : ℕ). nodes f + n + 1) (row_nodes xs)
