-- Moved expressions: where they stand, and whether they are the literal 0.
use Rattle.std.proofs.Common.{◌≡◌, ℕ, refl}
use Rattle.ax_parse_grammar.specs.declared.tree.Expr.{Expr, Name, Number, Unary', Binary', Cond', Index', Member', Arrow', Call'}
use Rattle.ax_parse_grammar.specs.declared.tree.Expr.TheBlock.{more_of-Expr, end_of-Expr}
use Rattle.ax_parse_grammar.specs.Trees.{span_of}
use Rattle.ax_names_types.specs.Types.{is_zero}
use Rattle.ax_print_holes.specs.Moved.{moved_span, moved_expr}

module _ (f : ℕ → ℕ) where
  pub span_moved : (a : Expr) → span_of (moved_expr f a) ≡ moved_span f (span_of a)
  span_moved (Name at x) = refl
  span_moved (Number at n) = refl
  span_moved (Unary' at op sh (more_of-Expr a end_of-Expr)) = refl
  span_moved (Binary' at op sh (more_of-Expr a end_of-Expr) sh2 (more_of-Expr b end_of-Expr)) = refl
  span_moved (Cond' at sh (more_of-Expr c end_of-Expr) sh2 (more_of-Expr a end_of-Expr) sh3 (more_of-Expr b end_of-Expr)) = refl
  span_moved (Index' at sh (more_of-Expr a end_of-Expr) sh2 (more_of-Expr i end_of-Expr)) = refl
  span_moved (Member' at sh (more_of-Expr a end_of-Expr) x) = refl
  span_moved (Arrow' at sh (more_of-Expr a end_of-Expr) x) = refl
  span_moved (Call' at sh (more_of-Expr a end_of-Expr) sh2 row) = refl

  pub zero_moved : (a : Expr) → is_zero (moved_expr f a) ≡ is_zero a
  zero_moved (Name at x) = refl
  zero_moved (Number at n) = refl
  zero_moved (Unary' at op sh (more_of-Expr a end_of-Expr)) = refl
  zero_moved (Binary' at op sh (more_of-Expr a end_of-Expr) sh2 (more_of-Expr b end_of-Expr)) = refl
  zero_moved (Cond' at sh (more_of-Expr c end_of-Expr) sh2 (more_of-Expr a end_of-Expr) sh3 (more_of-Expr b end_of-Expr)) = refl
  zero_moved (Index' at sh (more_of-Expr a end_of-Expr) sh2 (more_of-Expr i end_of-Expr)) = refl
  zero_moved (Member' at sh (more_of-Expr a end_of-Expr) x) = refl
  zero_moved (Arrow' at sh (more_of-Expr a end_of-Expr) x) = refl
  zero_moved (Call' at sh (more_of-Expr a end_of-Expr) sh2 row) = refl
