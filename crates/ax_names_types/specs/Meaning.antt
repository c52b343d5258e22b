-- What an expression means (C11 6.5).
use Rattle.std.specs.Prelude.{◌≡◌, ℕ, ℤ, Bool, true, false, List, [], ◌∷◌, ◌++◌, Option, Some, None}
use Rattle.ax_prog.specs.declared.Span.{Span}
use Rattle.ax_prog.specs.declared.Ty.{Ty}
use Rattle.ax_prog.specs.declared.Ty.TheVariants as ty
use Rattle.ax_prog.specs.declared.VarId.{VarId}
use Rattle.ax_prog.specs.declared.StructId.{StructId}
use Rattle.ax_prog.specs.declared.Bin.{Bin}
use Rattle.ax_prog.specs.declared.Bin.TheVariants as bin
use Rattle.ax_prog.specs.declared.Expr as ex
use Rattle.ax_prog.specs.declared.Expr.TheVariants as e
use Rattle.ax_prog.specs.declared.Atom.{Atom}
use Rattle.ax_prog.specs.declared.Lval.{Lval}
use Rattle.ax_prog.specs.declared.Lval.TheVariants as lval
use Rattle.ax_prog.specs.declared.Pexpr.{Pexpr}
use Rattle.ax_prog.specs.declared.Pexpr.TheVariants as p
use Rattle.ax_parse_grammar.specs.declared.tree.Name.{Name}
use Rattle.ax_parse_grammar.specs.declared.tree.Prefix.{Prefix}
use Rattle.ax_parse_grammar.specs.declared.tree.Prefix.TheVariants as pre
use Rattle.ax_parse_grammar.specs.declared.tree.Expr.{Expr}
use Rattle.ax_parse_grammar.specs.declared.tree.Expr.TheVariants as s
use Rattle.ax_parse_grammar.specs.Trees.{span_of}
use Rattle.ax_names_types.specs.declared.Entry.{Entry}
use Rattle.ax_names_types.specs.declared.Entity.TheVariants as entity
use Rattle.ax_names_types.specs.declared.Typed.{Typed}
use Rattle.ax_names_types.specs.declared.Typed.TheVariants as t
use Rattle.ax_names_types.specs.Scopes.{Env, innermost, member_of}
use Rattle.ax_names_types.specs.Types.{value_of, compared, is_comparison, is_arithmetic, un_of, is_zero}

-- the operand, which means the first, is the second as a value
abbrev pub Is : Expr → Typed → Typed → Type 0
Is a m v = value_of (span_of a) m ≡ v

-- An expression means this, where it keeps the rules of types. A number comes with its atoms in source order.
pub data Means (env : Env) : Expr → Typed → Type 0 where
  -- 6.5.1
  name : {at : Span} {x : List ℕ} (d : Entry) (id : VarId) (u : Ty) → innermost x env.names ≡ Some d → d.entity ≡ entity.Variable id u → Means env (s.Name at x) (t.Place u (lval.Var id))
  number : {at : Span} {n : ℤ} → Means env (s.Number at n) (t.Int (e.Num n) [])
  -- 6.5.3.3, 6.5.3.2
  unary : {at : Span} {op : Prefix} {a : Expr} {m : Typed} (x : ex.Expr) (xs : List (Atom × Span)) → is_arithmetic op ≡ true → Means env a m → Is a m (t.Int x xs) → Means env (s.Unary at op a) (t.Int (e.Un (un_of op) x) xs)
  deref : {at : Span} {a : Expr} {m : Typed} (u : Ty) (q : Pexpr) → Means env a m → Is a m (t.Ptr u q) → Means env (s.Unary at pre.Deref a) (t.Place u (lval.Deref q))
  address : {at : Span} {a : Expr} (u : Ty) (l : Lval) → Means env a (t.Place u l) → Means env (s.Unary at pre.Address a) (t.Ptr u (p.Address l))
  -- 6.5.5 to 6.5.14 of two numbers
  binary : {at : Span} {op : Bin} {a b : Expr} {m n : Typed} (x y : ex.Expr) (xs ys : List (Atom × Span)) → Means env a m → Means env b n → Is a m (t.Int x xs) → Is b n (t.Int y ys) → Means env (s.Binary at op a b) (t.Int (e.Bin op x y) (xs ++ ys))
  -- 6.5.6: a pointer and a number
  plus : {at : Span} {a b : Expr} {m n : Typed} (u : Ty) (q : Pexpr) (y : ex.Expr) (ys : List (Atom × Span)) → Means env a m → Means env b n → Is a m (t.Ptr u q) → Is b n (t.Int y ys) → Means env (s.Binary at bin.Add a b) (t.Ptr u (p.Plus q y))
  minus : {at : Span} {a b : Expr} {m n : Typed} (u : Ty) (q : Pexpr) (y : ex.Expr) (ys : List (Atom × Span)) → Means env a m → Means env b n → Is a m (t.Ptr u q) → Is b n (t.Int y ys) → Means env (s.Binary at bin.Sub a b) (t.Ptr u (p.Minus q y))
  -- 6.5.9: two pointers of one type, or a pointer and the literal 0
  pointers : {at : Span} {op : Bin} {a b : Expr} {m n : Typed} (u : Ty) (q r : Pexpr) → is_comparison op ≡ true → Means env a m → Means env b n → Is a m (t.Ptr u q) → Is b n (t.Ptr u r) → Means env (s.Binary at op a b) (compared op at q r)
  left_null : {at : Span} {op : Bin} {b : Expr} {n : Typed} (a : Expr) (u : Ty) (r : Pexpr) → is_comparison op ≡ true → is_zero a ≡ true → Means env b n → Is b n (t.Ptr u r) → Means env (s.Binary at op a b) (compared op at p.Null r)
  right_null : {at : Span} {op : Bin} {a : Expr} {m : Typed} (b : Expr) (u : Ty) (q : Pexpr) → is_comparison op ≡ true → is_zero b ≡ true → Means env a m → Is a m (t.Ptr u q) → Means env (s.Binary at op a b) (compared op at q p.Null)
  -- 6.5.15 of numbers
  cond : {at : Span} {c a b : Expr} {l m n : Typed} (x y z : ex.Expr) (xs ys zs : List (Atom × Span)) → Means env c l → Means env a m → Means env b n → Is c l (t.Int x xs) → Is a m (t.Int y ys) → Is b n (t.Int z zs) → Means env (s.Cond at c a b) (t.Int (e.Cond x y z) ((xs ++ ys) ++ zs))
  -- 6.5.2.1
  index : {at : Span} {a b : Expr} {m n : Typed} (u : Ty) (q : Pexpr) (i : ex.Expr) (is : List (Atom × Span)) → Means env a m → Means env b n → Is a m (t.Ptr u q) → Is b n (t.Int i is) → Means env (s.Index at a b) (t.Place u (lval.Deref (p.Plus q i)))
  -- 6.5.2.3
  member : {at : Span} {a : Expr} {x : Name} {m : Typed} (k : StructId) (l : Lval) (i : ℕ) (u : Ty) → Means env a m → Is a m (t.Place (ty.Struct k) l) → member_of env.structs k x.text ≡ Some (i, u) → Means env (s.Member at a x) (t.Place u (lval.Field l i))
  arrow : {at : Span} {a : Expr} {x : Name} {m : Typed} (k : StructId) (q : Pexpr) (i : ℕ) (u : Ty) → Means env a m → Is a m (t.Ptr (ty.Struct k) q) → member_of env.structs k x.text ≡ Some (i, u) → Means env (s.Arrow at a x) (t.Place u (lval.Field (lval.Deref q) i))
