-- Which rules values break where a place of some type wants one, and where.
use Rattle.std.specs.Prelude.{◌≡◌, ℕ, true, false, List, ◌∷◌, length, Option, Some, None, slice_get}
use Rattle.ax_prog.specs.declared.Span.{Span}
use Rattle.ax_prog.specs.declared.Ty.{Ty}
use Rattle.ax_prog.specs.declared.Ty.TheVariants as ty
use Rattle.ax_prog.specs.declared.VarId.{VarId}
use Rattle.ax_prog.specs.declared.FunId.{FunId}
use Rattle.ax_prog.specs.declared.Expr as ex
use Rattle.ax_prog.specs.declared.Atom.{Atom}
use Rattle.ax_prog.specs.declared.Pexpr.{Pexpr}
use Rattle.ax_prog.specs.declared.Arg.{Arg}
use Rattle.ax_prog.specs.declared.Value.{Value}
use Rattle.ax_prog.specs.declared.Lval.{Lval}
use Rattle.ax_parse_grammar.specs.declared.tree.Expr.{Expr}
use Rattle.ax_parse_grammar.specs.declared.tree.Expr.TheVariants as s
use Rattle.ax_parse_grammar.specs.Trees.{span_of}
use Rattle.ax_names_types.specs.declared.Entry.{Entry}
use Rattle.ax_names_types.specs.declared.Entity.TheVariants as entity
use Rattle.ax_names_types.specs.declared.Typed.{Typed}
use Rattle.ax_names_types.specs.declared.Typed.TheVariants as t
use Rattle.ax_names_types.specs.declared.Need.TheVariants as need
use Rattle.ax_names_types.specs.declared.TypeKind.TheVariants.{UnknownName, WrongType, NotLvalue, WrongCount}
use Rattle.ax_names_types.specs.declared.TypeFault.{TypeFault}
use Rattle.ax_names_types.specs.Faults.{fault}
use Rattle.ax_names_types.specs.Scopes.{innermost, is_function}
use Rattle.ax_names_types.specs.Types.{is_zero, is_call}
use Rattle.ax_names_types.specs.Meaning.{Means, Is}
use Rattle.ax_names_types.specs.Breaks.{Breaks, Misses}
use Rattle.ax_names_rules.specs.declared.Signature.{Signature}
use Rattle.ax_names_rules.specs.declared.State.{State}
use Rattle.ax_names_rules.specs.States.{here}
use Rattle.ax_names_rules.specs.Values.{Offers, IsFunction, Calls, is_name, function_at, is_array}

-- the expression is to be a number here
pub data BreaksNumber (st : State) (a : Expr) : TypeFault → Type 0 where
  within : {f : TypeFault} → Breaks (here st) a f → BreaksNumber st a f
  kind : {m : Typed} → Means (here st) a m → Misses need.Int a m → BreaksNumber st a (fault WrongType (span_of a))

-- what the expression means is, as a value, one for a place of this type
pub data Suits (a : Expr) (m : Typed) : Ty → Type 0 where
  number : (x : ex.Expr) (atoms : List (Atom × Span)) → Is a m (t.Int x atoms) → Suits a m ty.Int
  pointer : (u : Ty) (q : Pexpr) → Is a m (t.Ptr u q) → Suits a m (ty.Ptr u)
  null : (u : Ty) → is_zero a ≡ true → Suits a m (ty.Ptr u)

-- An expression, no call, is to be a value for a place of this type; the span is where unlike types are found.
pub data BreaksValue (st : State) (u : Ty) (at : Span) (a : Expr) : TypeFault → Type 0 where
  within : {f : TypeFault} → Breaks (here st) a f → BreaksValue st u at a f
  unlike : {m : Typed} → Means (here st) a m → (Suits a m u → ⊥) → BreaksValue st u at a (fault WrongType at)

-- arguments for parameters of these types, up to the first at fault
pub data BreaksArguments : State → List Ty → List Expr → TypeFault → Type 0 where
  this : {st : State} {u : Ty} {us : List Ty} {a : Expr} {rest : List Expr} {f : TypeFault} → BreaksValue st u (span_of a) a f → BreaksArguments st (u ∷ us) (a ∷ rest) f
  behind : {st st2 : State} {u : Ty} {us : List Ty} {a : Expr} {rest : List Expr} {f : TypeFault} (v : Value) → Offers st u a v st2 → BreaksArguments st2 us rest f → BreaksArguments st (u ∷ us) (a ∷ rest) f

-- 6.5.2.2p1: the name, which stands here, is no function that was declared before, with its head, and that the file defines
pub data BreaksCallee (defs : List (List ℕ)) (st : State) (at : Span) (x : List ℕ) : TypeFault → Type 0 where
  unknown : innermost x st.names ≡ None → BreaksCallee defs st at x (fault UnknownName at)
  variable : (d : Entry) (id : VarId) (u : Ty) → innermost x st.names ≡ Some d → d.entity ≡ entity.Variable id u → BreaksCallee defs st at x (fault WrongType at)
  headless : (d : Entry) (k : ℕ) → innermost x st.names ≡ Some d → d.entity ≡ entity.Function k → slice_get st.heads k ≡ None → BreaksCallee defs st at x (fault UnknownName at)
  undefined : (d : Entry) (k : ℕ) → innermost x st.names ≡ Some d → d.entity ≡ entity.Function k → function_at defs x ≡ None → BreaksCallee defs st at x (fault UnknownName at)

-- 6.5.2.2: the expression is to be a call. Its arguments are judged where they are as many as the parameters.
pub data BreaksCall (defs : List (List ℕ)) (st : State) : Expr → TypeFault → Type 0 where
  no_call : {a : Expr} → is_call a ≡ false → BreaksCall defs st a (fault WrongType (span_of a))
  callee : {at : Span} {m : Typed} (a : Expr) (xs : List Expr) → is_name a ≡ false → Means (here st) a m → BreaksCall defs st (s.Call at a xs) (fault WrongType (span_of a))
  within_callee : {at : Span} {f : TypeFault} (a : Expr) (xs : List Expr) → is_name a ≡ false → Breaks (here st) a f → BreaksCall defs st (s.Call at a xs) f
  name : {at : Span} {f : TypeFault} (xs : List Expr) (at2 : Span) (x : List ℕ) → BreaksCallee defs st at2 x f → BreaksCall defs st (s.Call at (s.Name at2 x) xs) f
  count : {at : Span} (xs : List Expr) (at2 : Span) (x : List ℕ) (head : Signature) (j : FunId) → IsFunction defs st x head j → (length xs ≡ length head.params → ⊥) → BreaksCall defs st (s.Call at (s.Name at2 x) xs) (fault WrongCount at)
  argument : {at : Span} {f : TypeFault} (xs : List Expr) (at2 : Span) (x : List ℕ) (head : Signature) (j : FunId) → IsFunction defs st x head j → length xs ≡ length head.params → BreaksArguments st head.params xs f → BreaksCall defs st (s.Call at (s.Name at2 x) xs) f

-- a value, which may be a call's
pub data BreaksGiven (defs : List (List ℕ)) (st : State) (u : Ty) (at : Span) (a : Expr) : TypeFault → Type 0 where
  value : {f : TypeFault} → is_call a ≡ false → BreaksValue st u at a f → BreaksGiven defs st u at a f
  call : {f : TypeFault} → is_call a ≡ true → BreaksCall defs st a f → BreaksGiven defs st u at a f
  result : {r : Option Ty} {j : FunId} {args : List Arg} {st2 : State} → Calls defs st a r j args st2 → (r ≡ Some u → ⊥) → BreaksGiven defs st u at a (fault WrongType at)

-- ---- places that are changed

-- 6.5.16p2: the expression is to be a place, and no array; a function's name is no place
pub data BreaksTarget (st : State) (a : Expr) : TypeFault → Type 0 where
  function : is_function st.names a ≡ true → BreaksTarget st a (fault NotLvalue (span_of a))
  within : {f : TypeFault} → is_function st.names a ≡ false → Breaks (here st) a f → BreaksTarget st a f
  no_place : {m : Typed} → Means (here st) a m → ((u : Ty) (l : Lval) → m ≡ t.Place u l → ⊥) → BreaksTarget st a (fault NotLvalue (span_of a))
  array : (u : Ty) (l : Lval) → Means (here st) a (t.Place u l) → is_array u ≡ true → BreaksTarget st a (fault NotLvalue (span_of a))
