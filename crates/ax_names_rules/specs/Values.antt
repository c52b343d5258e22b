-- Values where a place of some type wants one: right sides, initialisers, arguments, returned values (C11 6.5.2.2, 6.5.16.1).
use Rattle.std.specs.Prelude.{◌≡◌, ℕ, Bool, true, false, List, [], ◌∷◌, Option, Some, position, slice_get}
use Rattle.ax_prog.specs.declared.Span.{Span}
use Rattle.ax_prog.specs.declared.Ty.{Ty, Ptr', Array'}
use Rattle.ax_prog.specs.declared.Ty.TheVariants as ty
use Rattle.ax_prog.specs.declared.FunId.{FunId}
use Rattle.ax_prog.specs.declared.Expr as ex
use Rattle.ax_prog.specs.declared.Atom.{Atom}
use Rattle.ax_prog.specs.declared.Pexpr.{Pexpr}
use Rattle.ax_prog.specs.declared.Pexpr.TheVariants as p
use Rattle.ax_prog.specs.declared.Lval.{Lval}
use Rattle.ax_prog.specs.declared.Arg.{Arg}
use Rattle.ax_prog.specs.declared.Arg.TheVariants as arg
use Rattle.ax_prog.specs.declared.Value.{Value}
use Rattle.ax_prog.specs.declared.Value.TheVariants as value
use Rattle.ax_parse_grammar.specs.declared.tree.Expr.{Expr, Name, Number, Unary', Binary', Cond', Index', Member', Arrow', Call'}
use Rattle.ax_parse_grammar.specs.declared.tree.Expr.TheVariants as s
use Rattle.ax_names_types.specs.declared.Entry.{Entry}
use Rattle.ax_names_types.specs.declared.Entity.TheVariants as entity
use Rattle.ax_names_types.specs.declared.Typed.{Typed}
use Rattle.ax_names_types.specs.declared.Typed.TheVariants as t
use Rattle.ax_names_types.specs.Scopes.{same_text, innermost}
use Rattle.ax_names_types.specs.Types.{is_zero}
use Rattle.ax_names_types.specs.Meaning.{Means, Is}
use Rattle.ax_names_rules.specs.declared.Signature.{Signature}
use Rattle.ax_names_rules.specs.declared.State.{State}
use Rattle.ax_names_rules.specs.States.{here, next_slot, with_slot}

-- the expression is a number here, with these atoms
pub data IsNumber (st : State) : Expr → ex.Expr → List (Atom × Span) → Type 0 where
  number : {a : Expr} {m : Typed} (x : ex.Expr) (atoms : List (Atom × Span)) → Means (here st) a m → Is a m (t.Int x atoms) → IsNumber st a x atoms

-- 6.3.2.3p3, 6.5.16.1: the expression is a pointer to objects of this type here, or the literal 0
pub data IsPointer (st : State) : Expr → Ty → Pexpr → Type 0 where
  pointer : {a : Expr} {m : Typed} (u : Ty) (q : Pexpr) → Means (here st) a m → Is a m (t.Ptr u q) → IsPointer st a u q
  null : {u : Ty} (a : Expr) → is_zero a ≡ true → IsPointer st a u p.Null

-- 6.5.16.1: an expression, no call, is this value for a place of this type, and what stands behind it. A number is the next slot.
pub data Offers (st : State) : Ty → Expr → Value → State → Type 0 where
  number : {a : Expr} (x : ex.Expr) (atoms : List (Atom × Span)) → IsNumber st a x atoms → Offers st ty.Int a (value.Int (next_slot st)) (with_slot st a x atoms)
  pointer : {a : Expr} (u : Ty) (q : Pexpr) → IsPointer st a u q → Offers st (ty.Ptr u) a (value.Ptr q) st

-- a value that is no call's, as an argument
abbrev pub arg_of : Value → Arg
arg_of (value.Int id) = arg.Int id
arg_of (value.Ptr q) = arg.Ptr q
arg_of (value.Call j args) = arg.Ptr p.Null

-- 6.5.2.2p2, p4: a value for each parameter in turn
pub data Arguments : State → List Ty → List Expr → List Arg → State → Type 0 where
  none : {st : State} → Arguments st [] [] [] st
  more : {st st2 st3 : State} {u : Ty} {us : List Ty} {a : Expr} {rest : List Expr} {args : List Arg} (v : Value) → Offers st u a v st2 → Arguments st2 us rest args st3 → Arguments st (u ∷ us) (a ∷ rest) (arg_of v ∷ args) st3

-- whether an expression is a name
abbrev pub is_name : Expr → Bool
is_name (Name at x) = true
is_name (Number at n) = false
is_name (Unary' at op s r) = false
is_name (Binary' at op s r s2 r2) = false
is_name (Cond' at s r s2 r2 s3 r3) = false
is_name (Index' at s r s2 r2) = false
is_name (Member' at s r x) = false
is_name (Arrow' at s r x) = false
is_name (Call' at s r s2 r2) = false

-- the function of this name among those that the file defines, in order
abbrev pub function_at : List (List ℕ) → List ℕ → Option ℕ
function_at defs x = position (λ y. same_text y x) defs

abbrev pub fun_id : ℕ → FunId
fun_id k = record { 0 = k }

-- 6.5.2.2p1: the name denotes a function with this head, which the file defines as this one
pub data IsFunction (defs : List (List ℕ)) (st : State) (x : List ℕ) : Signature → FunId → Type 0 where
  function : {head : Signature} {j : ℕ} (d : Entry) (k : ℕ) → innermost x st.names ≡ Some d → d.entity ≡ entity.Function k → slice_get st.heads k ≡ Some head → function_at defs x ≡ Some j → IsFunction defs st x head (fun_id j)

-- A call of a function that was declared before: the type of its value, the function, its arguments, and what stands behind it.
pub data Calls (defs : List (List ℕ)) (st : State) : Expr → Option Ty → FunId → List Arg → State → Type 0 where
  call : {at : Span} {xs : List Expr} {j : FunId} {args : List Arg} {st2 : State} (at2 : Span) (x : List ℕ) (head : Signature) → IsFunction defs st x head j → Arguments st head.params xs args st2 → Calls defs st (s.Call at (s.Name at2 x) xs) head.result j args st2

-- 6.5.16.1, 6.7.9p11, 6.8.6.4p3: a value for a place of this type, which may be a call's, and what stands behind it
pub data Given (defs : List (List ℕ)) (st : State) : Ty → Expr → Value → State → Type 0 where
  offered : {u : Ty} {a : Expr} {v : Value} {st2 : State} → Offers st u a v st2 → Given defs st u a v st2
  call : {a : Expr} {u : Ty} {j : FunId} {args : List Arg} {st2 : State} → Calls defs st a (Some u) j args st2 → Given defs st u a (value.Call j args) st2

-- ---- places that are changed

abbrev pub is_array : Ty → Bool
is_array ty.Int = false
is_array (Ptr' s row) = false
is_array (Array' s row n) = true
is_array (ty.Struct k) = false

-- 6.5.16p2: the expression is this place, for objects of this type, and no array
pub data IsTarget (st : State) (a : Expr) : Ty → Lval → Type 0 where
  target : {u : Ty} {l : Lval} → Means (here st) a (t.Place u l) → is_array u ≡ false → IsTarget st a u l
