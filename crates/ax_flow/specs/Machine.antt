-- What runs flat code, op by op. Each act is the act of the program's execution.
use Rattle.std.specs.Prelude.{◌≡◌, ℕ, zero, suc, ◌+◌, ℤ, Bool, if◌then◌else◌, List, [], ◌∷◌, length, Option, Some, None, slice_get}
use Rattle.ax_prog.specs.declared.VarId.{VarId}
use Rattle.ax_prog.specs.declared.FunId.{FunId}
use Rattle.ax_prog.specs.declared.Fun.{Fun}
use Rattle.ax_prog.specs.declared.Program.{Program}
use Rattle.ax_meaning.specs.declared.Why.TheVariants.{NoValue}
use Rattle.ax_meaning.specs.declared.Cell.{Cell}
use Rattle.ax_meaning.specs.declared.Note.{Note}
use Rattle.ax_meaning.specs.declared.State.{State}
use Rattle.ax_meaning.specs.Types.{or_zero}
use Rattle.ax_meaning.specs.Store.{leave}
use Rattle.ax_meaning.specs.Acts.{Undefined, Setting, Source, Got, Done, Halted, step, declare, keep, assign, change, bump, read, print, condition, always, call_args, give, from_int, from_pointer, from_call}
use Rattle.ax_meaning.specs.Execution.{Ending, Returned, Stopped, Unfinished, Outcome, end_all, enter, value_at_end}
use Rattle.ax_meaning.specs.Runs.{Seen, seen, at_start}
use Rattle.ax_flow.specs.declared.Rhs.{Rhs}
use Rattle.ax_flow.specs.declared.Rhs.TheVariants as rhs
use Rattle.ax_flow.specs.declared.Op.{Op}
use Rattle.ax_flow.specs.declared.Op.TheVariants.{Decl, Keep, Assign, Change, Bump, Call, Return, Fall, Test, Always, Jump, End, Read, Print}
use Rattle.ax_flow.specs.declared.Frame.{Frame}

-- ---- where a run is

-- the open calls: the function whose code runs, and its callers, latest first
pub record Calls : Type 0 where
  pub running : FunId
  pub callers : List Frame

-- the place of the next op, the open calls, the value of the last call, and the state
pub record Here : Type 0 where
  pub place : ℕ
  pub calls : Calls
  pub last : Option Cell
  pub state : State

-- What a run comes to: what it shows, the inputs that are left, and what it noted.
pub record Final : Type 0 where
  pub shown : Seen
  pub left : List ℤ
  pub notes : List Note

abbrev pub final : Ending → State → Final
final e st = record { shown = seen e st; left = st.inputs; notes = st.notes }

abbrev pub final_of : Outcome → Final
final_of out = final out.ending out.state

-- what an op does: the run goes on here, or it is over
pub data Move : Type 0 where
  Go : Here → Move
  Stay : Final → Move

abbrev pub stays : Ending → State → Move
stays e st = Stay (final e st)

-- ---- ops

-- goes on after an act
abbrev pub moves : {A : Type 0} → Got A → (A → State → Move) → Move
moves (Done a st) go = go a st
moves (Halted why st) go = stays (Stopped why) st

abbrev pub goes_to : ℕ → Here → State → Move
goes_to place h st = Go (record h { place = place; state = st })

-- an op that is one act, after which the next op follows
abbrev pub further : Here → Got (Unit {0}) → Move
further h got = moves got (λ u st. goes_to (h.place + 1) h st)

-- the state after a call: its objects have ended, and its caller's names stand again
abbrev pub given_back : Frame → State → State
given_back f st = record st { store = leave f.objects f.names st.store }

-- the call that runs ends with this value; that of `main` from which a run begins ends the run
abbrev pub returned : List Frame → Option Cell → State → Move
returned [] v st = stays (Returned v) st
returned (f ∷ callers) v st =
    Go (record { place = f.back; calls = record { running = f.fun; callers = callers }; last = v; state = given_back f st })

abbrev pub source : Setting → Rhs → Option Cell → Source
source r (rhs.Int id) last = from_int r id
source r (rhs.Ptr q) last = from_pointer r q
source r rhs.Last last = from_call last

abbrev pub frame_of : FunId → ℕ → State → Frame
frame_of f back st = record { fun = f; back = back; objects = length (st.store).objects; names = (st.store).named }

-- the function of this number, whose code starts at this place, is called
abbrev pub entered : Option Fun → FunId → ℕ → ℕ → Calls → List Cell → State → Move
entered None f start back calls cells st = stays (Stopped (Undefined NoValue)) st
entered (Some fun) f start back calls cells st =
    Go (record {
      place = start;
      calls = record { running = f; callers = frame_of calls.running back st ∷ calls.callers };
      last = None;
      state = enter fun.params cells st;
    })

abbrev pub call_move : Setting → List ℕ → FunId → ℕ → Calls → List Cell → State → Move
call_move r starts f back calls cells st =
    entered (slice_get (r.program).funs f.0) f (or_zero (slice_get starts f.0)) back calls cells st

-- What an op does. Past the end of the code there is none, and no run of flat code comes there.
abbrev pub act : Setting → List ℕ → Option Op → Here → Move
act r starts None h = stays Unfinished h.state
act r starts (Some (Decl v i)) h = further h (declare r v i h.state)
act r starts (Some (Keep v)) h = further h (keep r v (from_call h.last) h.state)
act r starts (Some (Assign l x)) h = further h (assign r l (source r x h.last) h.state)
act r starts (Some (Change l op id)) h = further h (change r l op id h.state)
act r starts (Some (Bump l up)) h = further h (bump r l up h.state)
act r starts (Some (Call f args)) h = moves (call_args r args h.state) (call_move r starts f (h.place + 1) h.calls)
act r starts (Some (Return None)) h = moves (step r h.state) (λ u st. returned (h.calls).callers None st)
act r starts (Some (Return (Some x))) h =
    moves (give r (source r x h.last) h.state) (λ c st. returned (h.calls).callers (Some c) st)
act r starts (Some Fall) h = returned (h.calls).callers (value_at_end r.program ((h.calls).running).0) h.state
act r starts (Some (Test id t)) h = moves (condition r id h.state) (λ y st. goes_to (if y then h.place + 1 else t) h st)
act r starts (Some Always) h = moves (always r h.state) (λ y st. goes_to (h.place + 1) h st)
act r starts (Some (Jump t)) h = goes_to t h h.state
act r starts (Some (End v)) h = goes_to (h.place + 1) h (end_all (v ∷ []) h.state)
act r starts (Some (Read l)) h = further h (read r l h.state)
act r starts (Some (Print id)) h = further h (print r id h.state)

-- ---- runs

-- one op
abbrev pub move : Setting → List Op → List ℕ → Here → Move
move r code starts h = act r starts (slice_get code h.place) h

-- from this move the run comes to this
pub data Comes (r : Setting) (code : List Op) (starts : List ℕ) (come_to : Final) : Move → Type 0 where
  stops : Comes r code starts come_to (Stay come_to)
  goes : (h : Here) → Comes r code starts come_to (move r code starts h) → Comes r code starts come_to (Go h)

-- 5.1.2.2.1: `main` begins, without a step
abbrev pub begins : Option Fun → FunId → ℕ → State → Move
begins None f at st = stays (Stopped (Undefined NoValue)) st
begins (Some fun) f at st = Go (record { place = at; calls = record { running = f; callers = [] }; last = None; state = st })

abbrev pub start : Setting → List ℕ → List ℤ → Move
start r starts inputs =
    let main = (r.program).main in
    begins (slice_get (r.program).funs main.0) main (or_zero (slice_get starts main.0)) (at_start r.program inputs)
