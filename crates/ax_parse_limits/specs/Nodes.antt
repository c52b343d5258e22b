-- The nodes of an expression: its names and numbers, the names of members aside, and its operators. `[ ]`, `.`, `->` and the
-- parentheses of a call are one operator each.
use Rattle.std.specs.Prelude.{ℕ, suc, ◌+◌, List, [], ◌∷◌}
use Rattle.ax_parse_grammar.specs.declared.tree.Expr.{Expr, Name, Number, Unary', Binary', Cond', Index', Member', Arrow', Call'}
use Rattle.ax_parse_grammar.specs.declared.tree.Expr.TheBlock as e

abbrev mutual
  pub nodes : Expr → ℕ
  nodes (Name at x) = 1
  nodes (Number at n) = 1
  nodes (Unary' at op s (e.more_of-Expr a e.end_of-Expr)) = nodes a + 1
  nodes (Binary' at op s (e.more_of-Expr a e.end_of-Expr) t (e.more_of-Expr b e.end_of-Expr)) = nodes a + nodes b + 1
  nodes (Cond' at s (e.more_of-Expr c e.end_of-Expr) t (e.more_of-Expr a e.end_of-Expr) u (e.more_of-Expr b e.end_of-Expr)) = nodes c + nodes a + nodes b + 1
  nodes (Index' at s (e.more_of-Expr a e.end_of-Expr) t (e.more_of-Expr i e.end_of-Expr)) = nodes a + nodes i + 1
  nodes (Member' at s (e.more_of-Expr a e.end_of-Expr) x) = nodes a + 1
  nodes (Arrow' at s (e.more_of-Expr a e.end_of-Expr) x) = nodes a + 1
  nodes (Call' at s (e.more_of-Expr f e.end_of-Expr) t args) = nodes f + nodes_of_row args + 1

  pub nodes_of_row : {n : _} → e.Row_of-Expr n → ℕ
  nodes_of_row e.end_of-Expr = 0
  nodes_of_row (e.more_of-Expr a rest) = nodes a + nodes_of_row rest
