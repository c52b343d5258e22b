-- What a path says at each kind of node.
use Rattle.std.proofs.Common.{◌≡◌, ◌⊎◌, inl, inr, ℕ, List, Some, refl}
use Rattle.std.specs.Option.{option_map}
use Rattle.ax_parse_grammar.specs.declared.tree.Expr.{Expr, Name, Number, Unary', Binary', Cond', Index', Member', Arrow', Call'}
use Rattle.ax_parse_grammar.specs.declared.tree.Expr.TheVariants as e
use Rattle.ax_parse_grammar.specs.declared.tree.Expr.TheBlock.{more_of-Expr, end_of-Expr, shown-the_row-Expr-1, seen-the_row-Expr-1, shape-the_row-Expr-0, hidden-the_row-Expr-0}
use Rattle.ax_parse_grammar.specs.declared.tree.Simple as deed
use Rattle.ax_parse_grammar.specs.declared.tree.Stmt.{Stmt, Empty, Block', Decl, Simple, If', IfElse', While', Do', For', Break, Continue, Return, Read, Print}
use Rattle.ax_parse_grammar.specs.declared.tree.Stmt.TheVariants as s
use Rattle.ax_parse_grammar.specs.declared.tree.Stmt.TheBlock.{more_of-Stmt, end_of-Stmt, shown-the_row-Stmt-0, seen-the_row-Stmt-0, shape-the_row-Stmt-1, hidden-the_row-Stmt-1}
use Rattle.ax_print_holes.specs.Moved.{moved_span, moved_expr, moved_simple, moved_opening, moved_stmt}
use Rattle.ax_print_holes.specs.Holes.{HoldsArgument, HoldsInCall, HoldsValue, HoldsSimple, HoldsDecl, HoldsOpening, HoldsStmt, HoldsItem, put_argument, put_in_call, put_value, put_simple, put_decl, put_opening, put_stmt, put_item}
use denote.Hole.Carrier

module _ (old : Expr) where
  -- ---- calls

  -- what is put is a call with an argument that holds it
  abbrev pub InCall : ((ℕ → ℕ) → Expr → Expr) → Expr → Type 0
  InCall made (Call' at sh (more_of-Expr g end_of-Expr) sh2 row) = (xs : List Expr) × (shown-the_row-Expr-1 sh2 row ≡ xs) × (h : HoldsArgument old xs) × ((f : ℕ → ℕ) (new : Expr) → made f new ≡ e.Call (moved_span f at) (moved_expr f g) (put_argument f new h))
  InCall made (Name at x) = ⊥
  InCall made (Number at n) = ⊥
  InCall made (Unary' at op sh row) = ⊥
  InCall made (Binary' at op sh row sh2 row2) = ⊥
  InCall made (Cond' at sh row sh2 row2 sh3 row3) = ⊥
  InCall made (Index' at sh row sh2 row2) = ⊥
  InCall made (Member' at sh row x) = ⊥
  InCall made (Arrow' at sh row x) = ⊥

  pub look_in_call : {a : Expr} (h : HoldsInCall old a) → InCall (λ f new. put_in_call f new h) a
  unfolding shape-the_row-Expr-0 hidden-the_row-Expr-0 Carrier.hidden
  look_in_call (HoldsInCall.argument g {xs = xs} h) = (xs, seen-the_row-Expr-1 xs, h, λ f new. refl)

  -- ---- statements

  abbrev pub Made : Type 0
  Made = (ℕ → ℕ) → Expr → Stmt

  abbrev pub Looks : Made → Stmt → Type 0
  Looks made (Empty at) = ⊥
  Looks made (Block' at sh row) = (xs : List Stmt) × (shown-the_row-Stmt-0 sh row ≡ xs) × (h : HoldsItem old xs) × ((f : ℕ → ℕ) (new : Expr) → made f new ≡ s.Block (moved_span f at) (put_item f new h))
  Looks made (Decl d) = (h : HoldsDecl old d) × ((f : ℕ → ℕ) (new : Expr) → made f new ≡ s.Decl (put_decl f new d h))
  Looks made (Simple at x) = (h : HoldsSimple old x) × ((f : ℕ → ℕ) (new : Expr) → made f new ≡ s.Simple (moved_span f at) (put_simple f new h))
  Looks made (If' at c sh (more_of-Stmt a end_of-Stmt)) =
      ((c ≡ old) × ((f : ℕ → ℕ) (new : Expr) → made f new ≡ s.If (moved_span f at) new (moved_stmt f a)))
      ⊎ ((h : HoldsStmt old a) × ((f : ℕ → ℕ) (new : Expr) → made f new ≡ s.If (moved_span f at) (moved_expr f c) (put_stmt f new h)))
  Looks made (IfElse' at c sh (more_of-Stmt a end_of-Stmt) sh2 (more_of-Stmt b end_of-Stmt)) =
      ((c ≡ old) × ((f : ℕ → ℕ) (new : Expr) → made f new ≡ s.IfElse (moved_span f at) new (moved_stmt f a) (moved_stmt f b)))
      ⊎ (((h : HoldsStmt old a) × ((f : ℕ → ℕ) (new : Expr) → made f new ≡ s.IfElse (moved_span f at) (moved_expr f c) (put_stmt f new h) (moved_stmt f b)))
      ⊎ ((h : HoldsStmt old b) × ((f : ℕ → ℕ) (new : Expr) → made f new ≡ s.IfElse (moved_span f at) (moved_expr f c) (moved_stmt f a) (put_stmt f new h))))
  Looks made (While' at c sh (more_of-Stmt a end_of-Stmt)) =
      ((c ≡ old) × ((f : ℕ → ℕ) (new : Expr) → made f new ≡ s.While (moved_span f at) new (moved_stmt f a)))
      ⊎ ((h : HoldsStmt old a) × ((f : ℕ → ℕ) (new : Expr) → made f new ≡ s.While (moved_span f at) (moved_expr f c) (put_stmt f new h)))
  Looks made (Do' at sh (more_of-Stmt a end_of-Stmt) c) =
      ((h : HoldsStmt old a) × ((f : ℕ → ℕ) (new : Expr) → made f new ≡ s.Do (moved_span f at) (put_stmt f new h) (moved_expr f c)))
      ⊎ ((c ≡ old) × ((f : ℕ → ℕ) (new : Expr) → made f new ≡ s.Do (moved_span f at) (moved_stmt f a) new))
  Looks made (For' at o c x sh (more_of-Stmt a end_of-Stmt)) =
      ((h : HoldsOpening old o) × ((f : ℕ → ℕ) (new : Expr) → made f new ≡ s.For (moved_span f at) (put_opening f new h) (option_map (moved_expr f) c) (option_map (moved_simple f) x) (moved_stmt f a)))
      ⊎ (((c ≡ Some old) × ((f : ℕ → ℕ) (new : Expr) → made f new ≡ s.For (moved_span f at) (moved_opening f o) (Some new) (option_map (moved_simple f) x) (moved_stmt f a)))
      ⊎ (((y : deed.Simple) × (x ≡ Some y) × (h : HoldsSimple old y) × ((f : ℕ → ℕ) (new : Expr) → made f new ≡ s.For (moved_span f at) (moved_opening f o) (option_map (moved_expr f) c) (Some (put_simple f new h)) (moved_stmt f a)))
      ⊎ ((h : HoldsStmt old a) × ((f : ℕ → ℕ) (new : Expr) → made f new ≡ s.For (moved_span f at) (moved_opening f o) (option_map (moved_expr f) c) (option_map (moved_simple f) x) (put_stmt f new h)))))
  Looks made (Break at) = ⊥
  Looks made (Continue at) = ⊥
  Looks made (Return at a) = (b : Expr) × (a ≡ Some b) × (h : HoldsValue old b) × ((f : ℕ → ℕ) (new : Expr) → made f new ≡ s.Return (moved_span f at) (Some (put_value f new h)))
  Looks made (Read at a) = ⊥
  Looks made (Print at format a) = (a ≡ old) × ((f : ℕ → ℕ) (new : Expr) → made f new ≡ s.Print (moved_span f at) format new)

  pub look : {x : Stmt} (h : HoldsStmt old x) → Looks (λ f new. put_stmt f new h) x
  unfolding shape-the_row-Stmt-1 hidden-the_row-Stmt-1 Carrier.hidden
  look (HoldsStmt.block {xs = xs} h) = (xs, seen-the_row-Stmt-0 xs, h, λ f new. refl)
  look (HoldsStmt.decl h) = (h, λ f new. refl)
  look (HoldsStmt.simple h) = (h, λ f new. refl)
  look (HoldsStmt.if_test a) = inl (refl, λ f new. refl)
  look (HoldsStmt.if_body h) = inr (h, λ f new. refl)
  look (HoldsStmt.else_test a b) = inl (refl, λ f new. refl)
  look (HoldsStmt.else_first b h) = inr (inl (h, λ f new. refl))
  look (HoldsStmt.else_second a h) = inr (inr (h, λ f new. refl))
  look (HoldsStmt.while_test a) = inl (refl, λ f new. refl)
  look (HoldsStmt.while_body h) = inr (h, λ f new. refl)
  look (HoldsStmt.do_body h) = inl (h, λ f new. refl)
  look (HoldsStmt.do_test a) = inr (refl, λ f new. refl)
  look (HoldsStmt.for_opening a h) = inl (h, λ f new. refl)
  look (HoldsStmt.for_test a) = inr (inl (refl, λ f new. refl))
  look (HoldsStmt.for_step {x = x} a h) = inr (inr (inl (x, refl, h, λ f new. refl)))
  look (HoldsStmt.for_body h) = inr (inr (inr (h, λ f new. refl)))
  look (HoldsStmt.return {a = a} h) = (a, refl, h, λ f new. refl)
  look HoldsStmt.print = (refl, λ f new. refl)
