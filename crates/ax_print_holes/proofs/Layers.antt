-- Moved trees at each kind of node.
use Rattle.std.proofs.Common.{◌≡◌, ℕ, List, [], ◌∷◌, map, Option, refl, ap}
use Rattle.std.specs.Option.{option_map}
use Rattle.ax_prog.specs.declared.Span.{Span}
use Rattle.ax_prog.specs.declared.Bin.{Bin}
use Rattle.ax_parse_grammar.specs.declared.tree.Prefix.{Prefix}
use Rattle.ax_parse_grammar.specs.declared.tree.Name as word
use Rattle.ax_parse_grammar.specs.declared.tree.Expr.{Expr}
use Rattle.ax_parse_grammar.specs.declared.tree.Expr.TheVariants as e
use Rattle.ax_parse_grammar.specs.declared.tree.Expr.TheBlock.{shape-the_row-Expr-0, hidden-the_row-Expr-0, shape-the_row-Expr-1, hidden-the_row-Expr-1}
use Rattle.ax_parse_grammar.specs.declared.tree.Simple.{Simple}
use Rattle.ax_parse_grammar.specs.declared.tree.Opening.{Opening}
use Rattle.ax_parse_grammar.specs.declared.tree.Stmt.{Stmt}
use Rattle.ax_parse_grammar.specs.declared.tree.Stmt.TheVariants as s
use Rattle.ax_parse_grammar.specs.declared.tree.Stmt.TheBlock.{shape-the_row-Stmt-0, hidden-the_row-Stmt-0, shape-the_row-Stmt-1, hidden-the_row-Stmt-1}
use Rattle.ax_print_holes.specs.Moved.{moved_span, moved_name, moved_expr, moved_args, moved_simple, moved_opening, moved_stmt, moved_row}
use denote.Hole.Carrier

module _ (f : ℕ → ℕ) where
  -- ---- expressions

  pub moved-Unary : (at : Span) (op : Prefix) (a : Expr) → moved_expr f (e.Unary at op a) ≡ e.Unary (moved_span f at) op (moved_expr f a)
  unfolding shape-the_row-Expr-0 hidden-the_row-Expr-0 Carrier.hidden
  moved-Unary at op a = refl

  pub moved-Binary : (at : Span) (op : Bin) (a b : Expr) → moved_expr f (e.Binary at op a b) ≡ e.Binary (moved_span f at) op (moved_expr f a) (moved_expr f b)
  unfolding shape-the_row-Expr-0 hidden-the_row-Expr-0 Carrier.hidden
  moved-Binary at op a b = refl

  pub moved-Cond : (at : Span) (c a b : Expr) → moved_expr f (e.Cond at c a b) ≡ e.Cond (moved_span f at) (moved_expr f c) (moved_expr f a) (moved_expr f b)
  unfolding shape-the_row-Expr-0 hidden-the_row-Expr-0 Carrier.hidden
  moved-Cond at c a b = refl

  pub moved-Index : (at : Span) (a i : Expr) → moved_expr f (e.Index at a i) ≡ e.Index (moved_span f at) (moved_expr f a) (moved_expr f i)
  unfolding shape-the_row-Expr-0 hidden-the_row-Expr-0 Carrier.hidden
  moved-Index at a i = refl

  pub moved-Member : (at : Span) (a : Expr) (x : word.Name) → moved_expr f (e.Member at a x) ≡ e.Member (moved_span f at) (moved_expr f a) (moved_name f x)
  unfolding shape-the_row-Expr-0 hidden-the_row-Expr-0 Carrier.hidden
  moved-Member at a x = refl

  pub moved-Arrow : (at : Span) (a : Expr) (x : word.Name) → moved_expr f (e.Arrow at a x) ≡ e.Arrow (moved_span f at) (moved_expr f a) (moved_name f x)
  unfolding shape-the_row-Expr-0 hidden-the_row-Expr-0 Carrier.hidden
  moved-Arrow at a x = refl

  args_are : (xs : List Expr) → moved_args f (hidden-the_row-Expr-1 xs) ≡ map (moved_expr f) xs
  unfolding shape-the_row-Expr-0 hidden-the_row-Expr-0 shape-the_row-Expr-1 hidden-the_row-Expr-1 Carrier.hidden
  args_are [] = refl
  args_are (x ∷ xs) = ap (λ (l : List Expr). moved_expr f x ∷ l) (args_are xs)

  pub moved-Call : (at : Span) (a : Expr) (xs : List Expr) → moved_expr f (e.Call at a xs) ≡ e.Call (moved_span f at) (moved_expr f a) (map (moved_expr f) xs)
  unfolding shape-the_row-Expr-0 hidden-the_row-Expr-0 shape-the_row-Expr-1 hidden-the_row-Expr-1 Carrier.hidden
  moved-Call at a xs = ap (λ (l : List Expr). e.Call (moved_span f at) (moved_expr f a) l) (args_are xs)

  -- ---- statements

  row_is : (xs : List Stmt) → moved_row f (hidden-the_row-Stmt-0 xs) ≡ map (moved_stmt f) xs
  unfolding shape-the_row-Stmt-0 hidden-the_row-Stmt-0 shape-the_row-Stmt-1 hidden-the_row-Stmt-1 Carrier.hidden
  row_is [] = refl
  row_is (x ∷ xs) = ap (λ (l : List Stmt). moved_stmt f x ∷ l) (row_is xs)

  pub moved-Block : (at : Span) (xs : List Stmt) → moved_stmt f (s.Block at xs) ≡ s.Block (moved_span f at) (map (moved_stmt f) xs)
  unfolding shape-the_row-Stmt-0 hidden-the_row-Stmt-0 shape-the_row-Stmt-1 hidden-the_row-Stmt-1 Carrier.hidden
  moved-Block at xs = ap (λ (l : List Stmt). s.Block (moved_span f at) l) (row_is xs)

  pub moved-If : (at : Span) (c : Expr) (a : Stmt) → moved_stmt f (s.If at c a) ≡ s.If (moved_span f at) (moved_expr f c) (moved_stmt f a)
  unfolding shape-the_row-Stmt-1 hidden-the_row-Stmt-1 Carrier.hidden
  moved-If at c a = refl

  pub moved-IfElse : (at : Span) (c : Expr) (a b : Stmt) → moved_stmt f (s.IfElse at c a b) ≡ s.IfElse (moved_span f at) (moved_expr f c) (moved_stmt f a) (moved_stmt f b)
  unfolding shape-the_row-Stmt-1 hidden-the_row-Stmt-1 Carrier.hidden
  moved-IfElse at c a b = refl

  pub moved-While : (at : Span) (c : Expr) (a : Stmt) → moved_stmt f (s.While at c a) ≡ s.While (moved_span f at) (moved_expr f c) (moved_stmt f a)
  unfolding shape-the_row-Stmt-1 hidden-the_row-Stmt-1 Carrier.hidden
  moved-While at c a = refl

  pub moved-Do : (at : Span) (a : Stmt) (c : Expr) → moved_stmt f (s.Do at a c) ≡ s.Do (moved_span f at) (moved_stmt f a) (moved_expr f c)
  unfolding shape-the_row-Stmt-1 hidden-the_row-Stmt-1 Carrier.hidden
  moved-Do at a c = refl

  pub moved-For : (at : Span) (o : Opening) (c : Option Expr) (x : Option Simple) (a : Stmt) → moved_stmt f (s.For at o c x a) ≡ s.For (moved_span f at) (moved_opening f o) (option_map (moved_expr f) c) (option_map (moved_simple f) x) (moved_stmt f a)
  unfolding shape-the_row-Stmt-1 hidden-the_row-Stmt-1 Carrier.hidden
  moved-For at o c x a = refl
