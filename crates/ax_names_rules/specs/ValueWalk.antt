-- What values are, or their first fault, as functions; the laws say what these have to do with the rules.
use Rattle.std.specs.Prelude.{ℕ, nat_eq, Bool, false, if◌then◌else◌, List, [], ◌∷◌, length, Option, Some, None, slice_get, Ok, Err}
use Rattle.ax_prog.specs.declared.Span.{Span}
use Rattle.ax_prog.specs.declared.Ty.{Ty, Ptr', Array', more_of-Ty, end_of-Ty}
use Rattle.ax_prog.specs.declared.Ty.TheVariants as ty
use Rattle.ax_prog.specs.declared.SlotId.{SlotId}
use Rattle.ax_prog.specs.declared.FunId.{FunId}
use Rattle.ax_prog.specs.declared.Expr as ex
use Rattle.ax_prog.specs.declared.Atom.{Atom}
use Rattle.ax_prog.specs.declared.Lval.{Lval}
use Rattle.ax_prog.specs.declared.Pexpr.{Pexpr}
use Rattle.ax_prog.specs.declared.Pexpr.TheVariants as p
use Rattle.ax_prog.specs.declared.Arg.{Arg}
use Rattle.ax_prog.specs.declared.Value.{Value}
use Rattle.ax_prog.specs.declared.Value.TheVariants as value
use Rattle.ax_parse_grammar.specs.declared.tree.Expr.{Expr, Name, Call'}
use Rattle.ax_parse_grammar.specs.declared.tree.Expr.TheBlock.{more_of-Expr, end_of-Expr, shown-the_row-Expr-1}
use Rattle.ax_parse_grammar.specs.Trees.{span_of}
use Rattle.ax_names_types.specs.declared.Entry.{Entry}
use Rattle.ax_names_types.specs.declared.Entity.{Entity}
use Rattle.ax_names_types.specs.declared.Entity.TheVariants as entity
use Rattle.ax_names_types.specs.declared.Typed.{Typed}
use Rattle.ax_names_types.specs.declared.Typed.TheVariants as t
use Rattle.ax_names_types.specs.declared.TypeKind.TheVariants.{UnknownName, WrongType, NotLvalue, WrongCount}
use Rattle.ax_names_types.specs.Faults.{fault, Verdict}
use Rattle.ax_names_types.specs.Scopes.{innermost, is_function}
use Rattle.ax_names_types.specs.Types.{value_of, is_zero, is_call}
use Rattle.ax_names_types.specs.Verdicts.{same_ty, unless_function, verdict_of}
use Rattle.ax_names_rules.specs.declared.Signature.{Signature}
use Rattle.ax_names_rules.specs.declared.State.{State}
use Rattle.ax_names_rules.specs.States.{here, next_slot, with_slot}
use Rattle.ax_names_rules.specs.Values.{arg_of, function_at, fun_id}

-- what is made, and what stands behind it
abbrev pub Made : Type 0 → Type 0
Made A = Verdict (A × State)

infixl 10 ◌>>=◌
abbrev pub ◌>>=◌ : {A B : Type 0} → Verdict A → (A → Verdict B) → Verdict B
(Ok a) >>= f = f a
(Err g) >>= f = Err g

-- ---- numbers

abbrev pub Numbered : Type 0
Numbered = ex.Expr × List (Atom × Span)

abbrev pub as_number : Span → Typed → Verdict Numbered
as_number at (t.Int x atoms) = Ok (x, atoms)
as_number at (t.Ptr u q) = Err (fault WrongType at)
as_number at (t.Place u l) = Err (fault WrongType at)

abbrev pub number_of : State → Expr → Verdict Numbered
number_of st a = verdict_of (here st) a >>= λ m. as_number (span_of a) (value_of (span_of a) m)

abbrev pub slot_of : State → Expr → Made SlotId
slot_of st a = number_of st a >>= λ n. Ok (next_slot st, with_slot st a n.0 n.1)

-- ---- values for a place of a type

abbrev pub number_for : Ty → Span → Bool → State → Expr → ex.Expr → List (Atom × Span) → Made Value
number_for ty.Int at zero st a x atoms = Ok (value.Int (next_slot st), with_slot st a x atoms)
number_for (Ptr' s row) at zero st a x atoms = if zero then Ok (value.Ptr p.Null, st) else Err (fault WrongType at)
number_for (Array' s row n) at zero st a x atoms = Err (fault WrongType at)
number_for (ty.Struct k) at zero st a x atoms = Err (fault WrongType at)

abbrev pub pointer_for : Ty → Span → State → Ty → Pexpr → Made Value
pointer_for (Ptr' s (more_of-Ty u end_of-Ty)) at st v q = if same_ty u v then Ok (value.Ptr q, st) else Err (fault WrongType at)
pointer_for ty.Int at st v q = Err (fault WrongType at)
pointer_for (Array' s row n) at st v q = Err (fault WrongType at)
pointer_for (ty.Struct k) at st v q = Err (fault WrongType at)

abbrev pub suited : Ty → Span → State → Expr → Typed → Made Value
suited u at st a (t.Int x atoms) = number_for u at (is_zero a) st a x atoms
suited u at st a (t.Ptr v q) = pointer_for u at st v q
suited u at st a (t.Place v l) = Err (fault WrongType at)

abbrev pub value_for : Ty → Span → State → Expr → Made Value
value_for u at st a = verdict_of (here st) a >>= λ m. suited u at st a (value_of (span_of a) m)

-- ---- calls

abbrev pub args_of : List Ty → List Expr → State → Made (List Arg)
args_of [] xs st = Ok ([], st)
args_of (u ∷ us) [] st = Ok ([], st)
args_of (u ∷ us) (a ∷ rest) st = value_for u (span_of a) st a >>= λ v. args_of us rest v.1 >>= λ r. Ok (arg_of v.0 ∷ r.0, r.1)

abbrev pub entity_of : Option Entry → Option Entity
entity_of None = None
entity_of (Some d) = Some d.entity

abbrev pub head_at : Option Signature → Span → Verdict Signature
head_at None at = Err (fault UnknownName at)
head_at (Some head) at = Ok head

-- the head of the function that a name denotes
abbrev pub head_of : List Signature → Span → Option Entity → Verdict Signature
head_of heads at None = Err (fault UnknownName at)
head_of heads at (Some (entity.Variable id u)) = Err (fault WrongType at)
head_of heads at (Some (entity.Function k)) = head_at (slice_get heads k) at

abbrev pub defined_at : Option ℕ → Span → Verdict FunId
defined_at None at = Err (fault UnknownName at)
defined_at (Some j) at = Ok (fun_id j)

abbrev pub Called : Type 0
Called = Option Ty × (FunId × List Arg)

abbrev pub with_args : Span → Signature → FunId → List Expr → State → Made Called
with_args at head j xs st = if nat_eq (length xs) (length head.params) then (args_of head.params xs st >>= λ r. Ok ((head.result, (j, r.0)), r.1)) else Err (fault WrongCount at)

abbrev pub called : List (List ℕ) → State → Span → Span → List ℕ → List Expr → Made Called
called defs st at at2 x xs = head_of st.heads at2 (entity_of (innermost x st.names)) >>= λ head. defined_at (function_at defs x) at2 >>= λ j. with_args at head j xs st

-- a callee that is no name
abbrev pub no_callee : State → Expr → Made Called
no_callee st a = verdict_of (here st) a >>= λ m. Err (fault WrongType (span_of a))

-- behind the callee
abbrev pub callee_of : List (List ℕ) → State → Span → Expr → List Expr → Made Called
callee_of defs st at (Name at2 x) xs = called defs st at at2 x xs
callee_of defs st at a xs = no_callee st a

abbrev pub call_of : List (List ℕ) → State → Expr → Made Called
call_of defs st (Call' at s (more_of-Expr a end_of-Expr) s2 row) = callee_of defs st at a (shown-the_row-Expr-1 s2 row)
call_of defs st a = Err (fault WrongType (span_of a))

-- the type that a call gives is the one that is wanted
abbrev pub gives : Ty → Option Ty → Bool
gives u None = false
gives u (Some v) = same_ty u v

abbrev pub given_by : Ty → Span → Made Called → Made Value
given_by u at c = c >>= λ r. if gives u (r.0).0 then Ok (value.Call ((r.0).1).0 ((r.0).1).1, r.1) else Err (fault WrongType at)

abbrev pub given_for : List (List ℕ) → Ty → Span → State → Expr → Made Value
given_for defs u at st a = if is_call a then given_by u at (call_of defs st a) else value_for u at st a

-- ---- places that are changed

abbrev pub unless_array : Span → Ty → Lval → Verdict (Ty × Lval)
unless_array at ty.Int l = Ok (ty.Int, l)
unless_array at (Ptr' s row) l = Ok (Ptr' s row, l)
unless_array at (Array' s row n) l = Err (fault NotLvalue at)
unless_array at (ty.Struct k) l = Ok (ty.Struct k, l)

abbrev pub as_target : Span → Typed → Verdict (Ty × Lval)
as_target at (t.Int x atoms) = Err (fault NotLvalue at)
as_target at (t.Ptr u q) = Err (fault NotLvalue at)
as_target at (t.Place u l) = unless_array at u l

abbrev pub target_of : State → Expr → Verdict (Ty × Lval)
target_of st a = unless_function (is_function st.names a) (span_of a) (verdict_of (here st) a) >>= λ m. as_target (span_of a) m
