-- What each act of a run does: an assignment, a declaration, a condition, the arguments of a call, and so on. Each is one step.
use Rattle.std.specs.Prelude.{ℕ, zero, suc, ◌+◌, ◌-◌, ◌^◌, min, ℤ, pos, nat_lt, Bool, true, false, if◌then◌else◌, List, [], ◌∷◌, ◌++◌, replicate, Option, Some, None, Result, Ok, Err, slice_get, slice_set}
use Rattle.ax_base.specs.Arithmetic.{is_nonzero}
use Rattle.ax_prog.specs.declared.Bin.{Bin}
use Rattle.ax_prog.specs.declared.Bin.TheVariants as bin
use Rattle.ax_prog.specs.declared.Lval.{Lval}
use Rattle.ax_prog.specs.declared.Lval.TheVariants as lval
use Rattle.ax_prog.specs.declared.Pexpr.{Pexpr}
use Rattle.ax_prog.specs.declared.SlotId.{SlotId}
use Rattle.ax_prog.specs.declared.VarId.{VarId}
use Rattle.ax_prog.specs.declared.Arg.{Arg}
use Rattle.ax_prog.specs.declared.Arg.TheVariants as arg
use Rattle.ax_prog.specs.declared.Init.{Init}
use Rattle.ax_prog.specs.declared.Init.TheVariants as init
use Rattle.ax_prog.specs.declared.Value.TheVariants as value
use Rattle.ax_prog.specs.declared.Program.{Program}
use Rattle.ax_meaning.specs.declared.Why.{Why}
use Rattle.ax_meaning.specs.declared.Why.TheVariants.{Uninit, NoValue, NoInput}
use Rattle.ax_meaning.specs.declared.Cell.{Cell}
use Rattle.ax_meaning.specs.declared.Cell.TheVariants.{Empty, Int, Ptr}
use Rattle.ax_meaning.specs.declared.Place.{Place}
use Rattle.ax_meaning.specs.declared.Note.{Note}
use Rattle.ax_meaning.specs.declared.Note.TheVariants.{Met, Took}
use Rattle.ax_meaning.specs.declared.State.{State}
use Rattle.ax_meaning.specs.Answer.{Answer, with_value}
use Rattle.ax_meaning.specs.Operators.{strict_value}
use Rattle.ax_meaning.specs.Types.{cells_of, sizes_of, type_of_var}
use Rattle.ax_meaning.specs.Store.{stored_at, write, begin}
use Rattle.ax_meaning.specs.Values.{moved, moved_back, place_of, pointer_of}

-- ---- runs of every kind

-- Why a run stops before its end. Only an open run is cut.
pub data Halt : Type 0 where
  Undefined : Why → Halt
  OutOfSteps : Halt
  Cut : Halt

-- What a run is of: the program and the bound on its steps, and how it takes the values of slots. A plain run evaluates each
-- slot's tree, goes on after every output and notes nothing.
pub record Setting : Type 0 where
  pub program : Program
  pub steps : ℕ
  -- the value of a slot, whose evaluation begins in this state
  pub value : SlotId → State → Result ℤ Halt
  -- whether the run goes on after this output
  pub goes_on : List ℤ → Bool
  -- which slots' evaluations are noted, and whether the truth values of conditions are
  pub notes_value : SlotId → Bool
  pub notes_truth : Bool

-- What an act gives: a value and the new state, or the run stops.
pub data Got (A : Type 0) : Type 0 where
  Done : A → State → Got A
  Halted : Halt → State → Got A

-- goes on after an act
abbrev pub got_then : {A B : Type 0} → Got A → (A → State → Got B) → Got B
got_then (Done a st) go = go a st
got_then (Halted why st) go = Halted why st

abbrev pub got_of : {A : Type 0} → Result A Halt → State → Got A
got_of (Err why) st = Halted why st
got_of (Ok x) st = Done x st

abbrev pub got_answer : {A : Type 0} → Answer A → State → Got A
got_answer (Err why) st = Halted (Undefined why) st
got_answer (Ok x) st = Done x st

abbrev pub step_if : Bool → State → Got (Unit {0})
step_if true st = Done tt (record st { used = st.used + 1 })
step_if false st = Halted OutOfSteps st

-- a step begins, unless all are used
abbrev pub step : Setting → State → Got (Unit {0})
step r st = step_if (nat_lt st.used r.steps) st

abbrev pub note : Bool → Note → State → State
note true x st = record st { notes = st.notes ++ x ∷ [] }
note false x st = st

-- one more, up to the greatest number of 64 bits
abbrev pub one_more : Option ℕ → List ℕ → ℕ → List ℕ
one_more None counts at = counts
one_more (Some n) counts at = slice_set counts at (min (n + 1) (2 ^ 64 - 1))

-- one more evaluation of a slot has begun
abbrev pub count : SlotId → State → State
count id st = record st { counts = one_more (slice_get st.counts id.0) st.counts id.0 }

-- the value of a slot, whose evaluation begins
abbrev pub slot_value : Setting → SlotId → State → Got ℤ
slot_value r id st = got_of (r.value id st) (note (r.notes_value id) (Took id st.store) (count id st))

-- ---- stores and their changes

-- 6.5.16p3: a value is stored
abbrev pub put : Place → Cell → State → Got (Unit {0})
put at c st = got_then (got_answer (write st.store at c) st) (λ m st. Done tt (record st { store = m }))

abbrev pub with_object : VarId → List Cell → State → State
with_object v cells st = record st { store = begin v cells st.store }

-- where a value that is no call comes from
abbrev pub Source : Type 0
Source = State → Got Cell

abbrev pub from_int : Setting → SlotId → Source
from_int r id st = got_then (slot_value r id st) (λ n st. Done (Int n) st)

abbrev pub from_pointer : Setting → Pexpr → Source
from_pointer r q st = got_then (got_answer (pointer_of r.program st.store q) st) (λ q st. Done (Ptr q) st)

-- 6.9.1p12: the value of the last call, which isn't used where its function ended without one
abbrev pub from_call : Option Cell → Source
from_call None st = Halted (Undefined NoValue) st
from_call (Some c) st = Done c st

-- ---- acts

-- 6.5.16; the order is this language's own: the place first, then the value
abbrev pub assign : Setting → Lval → Source → State → Got (Unit {0})
assign r l source st =
    got_then (step r st)
    (λ u st. got_then (got_answer (place_of r.program st.store l) st) (λ at st. got_then (source st) (λ c st. put at c st)))

abbrev pub cells_of_var : Program → VarId → ℕ
cells_of_var p v = cells_of (sizes_of p) (type_of_var (slice_get p.vars v.0))

-- 6.7.9p10: an object with automatic storage and no initialiser has nothing stored
abbrev pub blank : Program → VarId → List Cell
blank p v = replicate (cells_of_var p v) Empty

-- 6.7.9p21: so many cells, of these numbers and zeros for the remainder
abbrev pub listed : ℕ → List ℤ → List Cell
listed n [] = replicate n (Int (pos 0))
listed zero (z ∷ zs) = []
listed (suc n) (z ∷ zs) = Int z ∷ listed n zs

-- the value of a variable whose object has begun
abbrev pub keep : Setting → VarId → Source → State → Got (Unit {0})
keep r v source st =
    got_then (got_answer (place_of r.program st.store (lval.Var v)) st) (λ at st. got_then (source st) (λ c st. put at c st))

-- 6.8p3, 6.7.9p8: the object begins before its initialiser is evaluated. (A call is no initialiser of this form: it is the value
-- of a variable that was declared before.)
abbrev pub declare : Setting → VarId → Init → State → Got (Unit {0})
declare r v init.Nothing st = got_then (step r st) (λ u st. Done tt (with_object v (blank r.program v) st))
declare r v (init.List ns) st = got_then (step r st) (λ u st. Done tt (with_object v (listed (cells_of_var r.program v) ns) st))
declare r v (init.Value (value.Int id)) st =
    got_then (step r st) (λ u st. keep r v (from_int r id) (with_object v (blank r.program v) st))
declare r v (init.Value (value.Ptr q)) st =
    got_then (step r st) (λ u st. keep r v (from_pointer r q) (with_object v (blank r.program v) st))
declare r v (init.Value (value.Call f args)) st = Halted (Undefined NoValue) st

-- what an operator gives for a stored number, or for a stored pointer and a number
abbrev pub changed_cell : Bin → Cell → ℤ → Answer Cell
changed_cell op Empty n = Err Uninit
changed_cell op (Int a) n = with_value (λ z. Ok (Int z)) (strict_value op a n)
changed_cell bin.Add (Ptr q) n = with_value (λ q. Ok (Ptr q)) (moved q n)
changed_cell bin.Sub (Ptr q) n = with_value (λ q. Ok (Ptr q)) (moved_back q n)
changed_cell op (Ptr q) n = Err NoValue

-- 6.5.16.2p3; the order is this language's own: the place once, then what is stored there, then the other operand
abbrev pub change : Setting → Lval → Bin → SlotId → State → Got (Unit {0})
change r l op id st =
    got_then (step r st)
    (λ u st. got_then (got_answer (place_of r.program st.store l) st)
    (λ at st. got_then (got_answer (stored_at st.store at) st)
    (λ old st. got_then (slot_value r id st)
    (λ n st. got_then (got_answer (changed_cell op old n) st) (λ c st. put at c st)))))

abbrev pub bump_by : Bool → Bin
bump_by up = if up then bin.Add else bin.Sub

-- 6.5.2.4p2, 6.5.3.1p2: `lv++` and `lv--` are `lv += 1` and `lv -= 1`
abbrev pub bump : Setting → Lval → Bool → State → Got (Unit {0})
bump r l up st =
    got_then (step r st)
    (λ u st. got_then (got_answer (place_of r.program st.store l) st)
    (λ at st. got_then (got_answer (stored_at st.store at) st)
    (λ old st. got_then (got_answer (changed_cell (bump_by up) old (pos 1)) st) (λ c st. put at c st))))

abbrev pub take_input : Place → List ℤ → State → Got (Unit {0})
take_input at [] st = Halted (Undefined NoInput) st
take_input at (z ∷ zs) st = put at (Int z) (record st { inputs = zs })

-- 7.21.6.4; the order is this language's own: `scanf("%d", &lv)`, the place first, then the next input
abbrev pub read : Setting → Lval → State → Got (Unit {0})
read r l st =
    got_then (step r st) (λ u st. got_then (got_answer (place_of r.program st.store l) st) (λ at st. take_input at st.inputs st))

abbrev pub done_if : Bool → State → Got (Unit {0})
done_if true st = Done tt st
done_if false st = Halted Cut st

-- 7.21.6.3: `printf("%d", e)`
abbrev pub print : Setting → SlotId → State → Got (Unit {0})
print r id st =
    got_then (step r st)
    (λ u st. got_then (slot_value r id st)
    (λ n st. done_if (r.goes_on (st.output ++ n ∷ [])) (record st { output = st.output ++ n ∷ [] })))

-- 6.8.4.1p2, 6.8.5p4: a condition holds where it isn't equal to 0
abbrev pub condition : Setting → SlotId → State → Got Bool
condition r id st =
    got_then (step r st)
    (λ u st. got_then (slot_value r id st) (λ n st. Done (is_nonzero n) (note r.notes_truth (Met (is_nonzero n)) st)))

-- 6.8.5.3p2: an absent condition of a `for` has value 1
abbrev pub always : Setting → State → Got Bool
always r st = got_then (step r st) (λ u st. Done true (note r.notes_truth (Met true) st))

abbrev pub condition_or_true : Setting → Option SlotId → State → Got Bool
condition_or_true r None st = always r st
condition_or_true r (Some id) st = condition r id st

abbrev pub from_arg : Setting → Arg → Source
from_arg r (arg.Int id) = from_int r id
from_arg r (arg.Ptr q) = from_pointer r q

abbrev pub arg_values : Setting → List Arg → List Cell → State → Got (List Cell)
arg_values r [] cells st = Done cells st
arg_values r (a ∷ rest) cells st = got_then (from_arg r a st) (λ c st. arg_values r rest (cells ++ c ∷ []) st)

-- 6.5.2.2p4; the order is this language's own: the step of a call, and the values of its arguments from left to right
abbrev pub call_args : Setting → List Arg → State → Got (List Cell)
call_args r args st = got_then (step r st) (λ u st. arg_values r args [] st)

-- 6.8.6.4p3: the step of a `return`, and its value
abbrev pub give : Setting → Source → State → Got Cell
give r source st = got_then (step r st) (λ u st. source st)
