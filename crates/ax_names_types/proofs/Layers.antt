-- Each definition at each kind of node.
use Rattle.std.proofs.Common.{◌≡◌, ℕ, zero, ℤ, pos, Bool, List, [], ◌∷◌, Option, Some, None, Result, Ok, Err, refl, if◌then◌else◌, false}
use Rattle.std.specs.Prelude.{nat_eq}
use Rattle.ax_prog.specs.declared.Span.{Span}
use Rattle.ax_prog.specs.declared.Bin.{Bin}
use Rattle.ax_prog.specs.declared.Ty.{Ty, Array, Ptr}
use Rattle.ax_prog.specs.declared.Ty.TheVariants as ty
use Rattle.ax_prog.specs.declared.Ty.TheBlock.{shape-the_row-Ty-0, hidden-the_row-Ty-0}
use Rattle.ax_prog.specs.declared.StructId.{StructId}
use Rattle.ax_prog.specs.declared.Lval.{Lval}
use Rattle.ax_prog.specs.declared.Pexpr.TheVariants as p
use Rattle.ax_parse_grammar.specs.declared.tree.Name.{Name}
use Rattle.ax_parse_grammar.specs.declared.tree.Prefix.{Prefix}
use Rattle.ax_parse_grammar.specs.declared.tree.Expr.{Expr}
use Rattle.ax_parse_grammar.specs.declared.tree.Expr.TheVariants as s
use Rattle.ax_parse_grammar.specs.declared.tree.Expr.TheBlock.{shape-the_row-Expr-0, hidden-the_row-Expr-0}
use Rattle.ax_parse_grammar.specs.Trees.{span_of}
use Rattle.ax_names_types.specs.declared.Entry.{Entry}
use Rattle.ax_names_types.specs.declared.Typed.TheVariants as t
use Rattle.ax_names_types.specs.Scopes.{Env, or_else, is_function}
use Rattle.ax_names_types.specs.Types.{value_of_place, is_zero}
use Rattle.ax_names_types.specs.Verdicts.{same_ty, unary, binary, cond, index, member, arrow, verdict_of}
use denote.Hole.Carrier

-- ---- names

pub or_else_none : (o : Option Entry) → or_else o None ≡ o
or_else_none None = refl
or_else_none (Some e) = refl

pub or_else_assoc : (o p q : Option Entry) → or_else (or_else o p) q ≡ or_else o (or_else p q)
or_else_assoc None p q = refl
or_else_assoc (Some e) p q = refl

pub ruleset scopes = (or_else_none, or_else_assoc)

-- ---- types

pub same_ty-Ptr : (a b : Ty) → same_ty (Ptr a) (Ptr b) ≡ same_ty a b
unfolding shape-the_row-Ty-0 hidden-the_row-Ty-0 Carrier.hidden
same_ty-Ptr a b = refl

pub same_ty-Array : (a b : Ty) (m n : ℕ) → same_ty (Array a m) (Array b n) ≡ (if nat_eq m n then same_ty a b else false)
unfolding shape-the_row-Ty-0 hidden-the_row-Ty-0 Carrier.hidden
same_ty-Array a b m n = refl

pub same_ty-Ptr-Int : (a : Ty) → same_ty (Ptr a) ty.Int ≡ false
unfolding shape-the_row-Ty-0 hidden-the_row-Ty-0 Carrier.hidden
same_ty-Ptr-Int a = refl

pub same_ty-Ptr-Array : (a b : Ty) (n : ℕ) → same_ty (Ptr a) (Array b n) ≡ false
unfolding shape-the_row-Ty-0 hidden-the_row-Ty-0 Carrier.hidden
same_ty-Ptr-Array a b n = refl

pub same_ty-Ptr-Struct : (a : Ty) (k : StructId) → same_ty (Ptr a) (ty.Struct k) ≡ false
unfolding shape-the_row-Ty-0 hidden-the_row-Ty-0 Carrier.hidden
same_ty-Ptr-Struct a k = refl

pub same_ty-Array-Int : (a : Ty) (m : ℕ) → same_ty (Array a m) ty.Int ≡ false
unfolding shape-the_row-Ty-0 hidden-the_row-Ty-0 Carrier.hidden
same_ty-Array-Int a m = refl

pub same_ty-Array-Ptr : (a b : Ty) (m : ℕ) → same_ty (Array a m) (Ptr b) ≡ false
unfolding shape-the_row-Ty-0 hidden-the_row-Ty-0 Carrier.hidden
same_ty-Array-Ptr a b m = refl

pub same_ty-Array-Struct : (a : Ty) (m : ℕ) (k : StructId) → same_ty (Array a m) (ty.Struct k) ≡ false
unfolding shape-the_row-Ty-0 hidden-the_row-Ty-0 Carrier.hidden
same_ty-Array-Struct a m k = refl

pub value_of_place-Ptr : (at : Span) (a : Ty) (l : Lval) → value_of_place at (Ptr a) l ≡ t.Ptr a (p.Read l)
unfolding shape-the_row-Ty-0 hidden-the_row-Ty-0 Carrier.hidden
value_of_place-Ptr at a l = refl

pub value_of_place-Array : (at : Span) (a : Ty) (n : ℕ) (l : Lval) → value_of_place at (Array a n) l ≡ t.Ptr a (p.Decay l)
unfolding shape-the_row-Ty-0 hidden-the_row-Ty-0 Carrier.hidden
value_of_place-Array at a n l = refl

pub ruleset types = (same_ty-Ptr-Int, same_ty-Ptr-Array, same_ty-Ptr-Struct, same_ty-Array-Int, same_ty-Array-Ptr, same_ty-Array-Struct, same_ty-Ptr, same_ty-Array, value_of_place-Ptr, value_of_place-Array)

-- ---- expressions

pub verdict_of-Unary : (env : Env) (at : Span) (op : Prefix) (a : Expr) → verdict_of env (s.Unary at op a) ≡ unary op (is_function env.names a) (span_of a) (verdict_of env a)
unfolding shape-the_row-Expr-0 hidden-the_row-Expr-0 Carrier.hidden
verdict_of-Unary env at op a = refl

pub verdict_of-Binary : (env : Env) (at : Span) (op : Bin) (a b : Expr) → verdict_of env (s.Binary at op a b) ≡ binary op at (is_zero a) (span_of a) (verdict_of env a) (is_zero b) (span_of b) (verdict_of env b)
unfolding shape-the_row-Expr-0 hidden-the_row-Expr-0 Carrier.hidden
verdict_of-Binary env at op a b = refl

pub verdict_of-Cond : (env : Env) (at : Span) (c a b : Expr) → verdict_of env (s.Cond at c a b) ≡ cond (span_of c) (verdict_of env c) (span_of a) (verdict_of env a) (span_of b) (verdict_of env b)
unfolding shape-the_row-Expr-0 hidden-the_row-Expr-0 Carrier.hidden
verdict_of-Cond env at c a b = refl

pub verdict_of-Index : (env : Env) (at : Span) (a b : Expr) → verdict_of env (s.Index at a b) ≡ index (span_of a) (verdict_of env a) (span_of b) (verdict_of env b)
unfolding shape-the_row-Expr-0 hidden-the_row-Expr-0 Carrier.hidden
verdict_of-Index env at a b = refl

pub verdict_of-Member : (env : Env) (at : Span) (a : Expr) (x : Name) → verdict_of env (s.Member at a x) ≡ member env.structs x (span_of a) (verdict_of env a)
unfolding shape-the_row-Expr-0 hidden-the_row-Expr-0 Carrier.hidden
verdict_of-Member env at a x = refl

pub verdict_of-Arrow : (env : Env) (at : Span) (a : Expr) (x : Name) → verdict_of env (s.Arrow at a x) ≡ arrow env.structs x (span_of a) (verdict_of env a)
unfolding shape-the_row-Expr-0 hidden-the_row-Expr-0 Carrier.hidden
verdict_of-Arrow env at a x = refl

pub ruleset verdicts = (verdict_of-Unary, verdict_of-Binary, verdict_of-Cond, verdict_of-Index, verdict_of-Member, verdict_of-Arrow)
