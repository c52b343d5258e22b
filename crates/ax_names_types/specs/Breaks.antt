-- Which type rules an expression breaks, and where.
use Rattle.std.specs.Prelude.{◌≡◌, ℕ, ◌≤◌, Bool, true, false, List, Option, None, Some, Result, Ok, Err}
use Rattle.ax_prog.specs.declared.Span.{Span}
use Rattle.ax_prog.specs.declared.Ty.{Ty}
use Rattle.ax_prog.specs.declared.Ty.TheVariants as ty
use Rattle.ax_prog.specs.declared.StructId.{StructId}
use Rattle.ax_prog.specs.declared.Bin.{Bin}
use Rattle.ax_prog.specs.declared.Expr as ex
use Rattle.ax_prog.specs.declared.Atom.{Atom}
use Rattle.ax_prog.specs.declared.Lval.{Lval}
use Rattle.ax_prog.specs.declared.Pexpr.{Pexpr}
use Rattle.ax_parse_grammar.specs.declared.tree.Name.{Name}
use Rattle.ax_parse_grammar.specs.declared.tree.Prefix.{Prefix}
use Rattle.ax_parse_grammar.specs.declared.tree.Prefix.TheVariants as pre
use Rattle.ax_parse_grammar.specs.declared.tree.Expr.{Expr}
use Rattle.ax_parse_grammar.specs.declared.tree.Expr.TheVariants as s
use Rattle.ax_parse_grammar.specs.Trees.{span_of}
use Rattle.ax_names_types.specs.declared.Entry.{Entry}
use Rattle.ax_names_types.specs.declared.Entity.TheVariants as entity
use Rattle.ax_names_types.specs.declared.Typed.{Typed}
use Rattle.ax_names_types.specs.declared.Typed.TheVariants as t
use Rattle.ax_names_types.specs.declared.Need.{Need}
use Rattle.ax_names_types.specs.declared.Need.TheVariants as need
use Rattle.ax_names_types.specs.declared.TypeKind.TheVariants.{UnknownName, WrongType, NotLvalue, MissingField}
use Rattle.ax_names_types.specs.declared.TypeFault.{TypeFault}
use Rattle.ax_names_types.specs.Faults.{fault, turn, Verdict}
use Rattle.ax_names_types.specs.Scopes.{Env, innermost, is_function, member_of}
use Rattle.ax_names_types.specs.Types.{value_of, meets, left_need, right_need, unary_need, is_comparison, is_address, is_zero, is_call}
use Rattle.ax_names_types.specs.Meaning.{Is, Means}

-- what an expression needs its operand to be, as a value
pub data Needs : Expr → Expr → Need → Type 0 where
  operand : {at : Span} {op : Prefix} (a : Expr) → is_address op ≡ false → Needs (s.Unary at op a) a (unary_need op)
  left : {at : Span} {op : Bin} (a b : Expr) → Needs (s.Binary at op a b) a (left_need op)
  right : {at : Span} {op : Bin} (a b : Expr) → Needs (s.Binary at op a b) b (right_need op)
  test : {at : Span} (c a b : Expr) → Needs (s.Cond at c a b) c need.Int
  first : {at : Span} (c a b : Expr) → Needs (s.Cond at c a b) a need.Int
  second : {at : Span} (c a b : Expr) → Needs (s.Cond at c a b) b need.Int
  array : {at : Span} (a b : Expr) → Needs (s.Index at a b) a need.Pointer
  index : {at : Span} (a b : Expr) → Needs (s.Index at a b) b need.Int
  member : {at : Span} (a : Expr) (x : Name) → Needs (s.Member at a x) a need.Struct
  arrow : {at : Span} (a : Expr) (x : Name) → Needs (s.Arrow at a x) a need.StructPointer

-- the operand isn't of this kind, as a value
abbrev pub Misses : Need → Expr → Typed → Type 0
Misses want a m = meets want (value_of (span_of a) m) ≡ false

-- A rule is broken in the expression, at this place. A rule that needs what an operand means isn't broken where the operand has no meaning.
pub data Breaks (env : Env) : Expr → TypeFault → Type 0 where
  unknown : {at : Span} {x : List ℕ} → innermost x env.names ≡ None → Breaks env (s.Name at x) (fault UnknownName at)
  function : {at : Span} {x : List ℕ} (d : Entry) (k : ℕ) → innermost x env.names ≡ Some d → d.entity ≡ entity.Function k → Breaks env (s.Name at x) (fault WrongType at)
  -- an operand breaks a rule, or isn't what is needed
  within : {x a : Expr} {want : Need} {f : TypeFault} → Needs x a want → Breaks env a f → Breaks env x f
  kind : {x a : Expr} {want : Need} {m : Typed} → Needs x a want → Means env a m → Misses want a m → Breaks env x (fault WrongType (span_of a))
  -- 6.5.3.2: the operand of `&` is a place, and a function's name isn't one
  function_address : {at : Span} (a : Expr) → is_function env.names a ≡ true → Breaks env (s.Unary at pre.Address a) (fault NotLvalue (span_of a))
  in_address : {at : Span} {a : Expr} {f : TypeFault} → is_function env.names a ≡ false → Breaks env a f → Breaks env (s.Unary at pre.Address a) f
  no_place : {at : Span} {a : Expr} {m : Typed} → Means env a m → ((u : Ty) (l : Lval) → m ≡ t.Place u l → ⊥) → Breaks env (s.Unary at pre.Address a) (fault NotLvalue (span_of a))
  -- 6.5.9: pointers of two types, or a pointer and a number other than the literal 0
  unlike : {at : Span} {op : Bin} {a b : Expr} {m n : Typed} (u v : Ty) (q r : Pexpr) → is_comparison op ≡ true → Means env a m → Means env b n → Is a m (t.Ptr u q) → Is b n (t.Ptr v r) → (u ≡ v → ⊥) → Breaks env (s.Binary at op a b) (fault WrongType at)
  left_number : {at : Span} {op : Bin} {a b : Expr} {m n : Typed} (v : Ty) (r : Pexpr) (x : ex.Expr) (xs : List (Atom × Span)) → is_comparison op ≡ true → is_zero a ≡ false → Means env a m → Means env b n → Is a m (t.Int x xs) → Is b n (t.Ptr v r) → Breaks env (s.Binary at op a b) (fault WrongType at)
  right_number : {at : Span} {op : Bin} {a b : Expr} {m n : Typed} (u : Ty) (q : Pexpr) (y : ex.Expr) (ys : List (Atom × Span)) → is_comparison op ≡ true → is_zero b ≡ false → Means env a m → Means env b n → Is a m (t.Ptr u q) → Is b n (t.Int y ys) → Breaks env (s.Binary at op a b) (fault WrongType at)
  -- 6.5.2.3
  no_member : {at : Span} {a : Expr} {x : Name} {m : Typed} (k : StructId) (l : Lval) → Means env a m → Is a m (t.Place (ty.Struct k) l) → member_of env.structs k x.text ≡ None → Breaks env (s.Member at a x) (fault MissingField x.span)
  no_member_behind : {at : Span} {a : Expr} {x : Name} {m : Typed} (k : StructId) (q : Pexpr) → Means env a m → Is a m (t.Ptr (ty.Struct k) q) → member_of env.structs k x.text ≡ None → Breaks env (s.Arrow at a x) (fault MissingField x.span)
  -- a call is no operand: calls stand only where statements let them
  call : {x : Expr} → is_call x ≡ true → Breaks env x (fault WrongType (span_of x))

-- a break before which no other comes
abbrev pub First : Env → Expr → TypeFault → Type 0
First env x f = Breaks env x f × ((g : TypeFault) → Breaks env x g → turn f ≤ turn g)

-- the answer is the meaning and nothing is broken, or it is the first break and there is no meaning
abbrev pub Exact : Env → Expr → Verdict Typed → Type 0
Exact env x (Ok m) = Means env x m × ((g : TypeFault) → Breaks env x g → ⊥)
Exact env x (Err f) = First env x f × ((m : Typed) → Means env x m → ⊥)
