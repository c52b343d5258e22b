-- Expressions that write a tree out, and the parts of an expression that are its atoms.
use Rattle.std.specs.Prelude.{◌≡◌, ℕ, ℤ, true, List, [], ◌∷◌, Contains, Some, slice_get}
use Rattle.ax_prog.specs.declared.Span.{Span}
use Rattle.ax_prog.specs.declared.VarId.{VarId}
use Rattle.ax_prog.specs.declared.Var.{Var}
use Rattle.ax_prog.specs.declared.Bin.{Bin}
use Rattle.ax_prog.specs.declared.Expr as ex
use Rattle.ax_prog.specs.declared.Expr.TheVariants as e
use Rattle.ax_prog.specs.declared.Atom.{Atom}
use Rattle.ax_prog.specs.declared.Atom.TheVariants as atom
use Rattle.ax_prog.specs.declared.Lval.TheVariants as lval
use Rattle.ax_parse_grammar.specs.declared.tree.Prefix.{Prefix}
use Rattle.ax_parse_grammar.specs.declared.tree.Expr.{Expr}
use Rattle.ax_parse_grammar.specs.declared.tree.Expr.TheVariants as form
use Rattle.ax_parse_grammar.specs.Trees.{span_of}
use Rattle.ax_names_types.specs.Scopes.{Env}
use Rattle.ax_names_types.specs.Types.{is_arithmetic, un_of}
use Rattle.ax_names_rules.specs.States.{visible}
use Rattle.ax_print_holes.specs.Moved.{moved_expr}
use Rattle.ax_print_fills.specs.Replaced.{IsNumberIn}

-- The tree in words of the grammar: variables that are visible by their names, and any atom by an expression that is that atom
-- there, wherever it stands.
pub data IsWritten (vars : List Var) (there : Env) : ex.Expr → Expr → Type 0 where
  number : {at : Span} {n : ℤ} → IsWritten vars there (e.Num n) (form.Number at n)
  variable : {at : Span} (id : VarId) (v : Var) → Contains (visible there.names) id → slice_get vars id.0 ≡ Some v → IsWritten vars there (e.Atom (atom.Read (lval.Var id))) (form.Name at v.name)
  kept : (y : Atom) (f : ℕ → ℕ) (b : Expr) (atoms : List (Atom × Span)) → IsNumberIn there b (e.Atom y) atoms → IsWritten vars there (e.Atom y) (moved_expr f b)
  unary : {at : Span} {op : Prefix} {x : ex.Expr} {a : Expr} → is_arithmetic op ≡ true → IsWritten vars there x a → IsWritten vars there (e.Un (un_of op) x) (form.Unary at op a)
  binary : {at : Span} {op : Bin} {x y : ex.Expr} {a b : Expr} → IsWritten vars there x a → IsWritten vars there y b → IsWritten vars there (e.Bin op x y) (form.Binary at op a b)
  cond : {at : Span} {x y z : ex.Expr} {c a b : Expr} → IsWritten vars there x c → IsWritten vars there y a → IsWritten vars there z b → IsWritten vars there (e.Cond x y z) (form.Cond at c a b)

-- the second is the first, or has it as an operand of an operator on numbers, at any depth
pub data IsPartOf (b : Expr) : Expr → Type 0 where
  whole : IsPartOf b b
  operand : {at : Span} {op : Prefix} {a : Expr} → IsPartOf b a → IsPartOf b (form.Unary at op a)
  left : {at : Span} {op : Bin} {a : Expr} (c : Expr) → IsPartOf b a → IsPartOf b (form.Binary at op a c)
  right : {at : Span} {op : Bin} {c : Expr} (a : Expr) → IsPartOf b c → IsPartOf b (form.Binary at op a c)
  test : {at : Span} {c : Expr} (a d : Expr) → IsPartOf b c → IsPartOf b (form.Cond at c a d)
  first : {at : Span} {a : Expr} (c d : Expr) → IsPartOf b a → IsPartOf b (form.Cond at c a d)
  second : {at : Span} {d : Expr} (c a : Expr) → IsPartOf b d → IsPartOf b (form.Cond at c a d)

-- a part of the expression is this atom, where it stands
abbrev pub HasAtom : Env → Expr → Atom × Span → Type 0
HasAtom there a y = (b : Expr) × IsPartOf b a × (span_of b ≡ y.1) × IsNumberIn there b (e.Atom y.0) (y ∷ [])
