-- A program's run on given inputs: its start (C11 5.1.2p1, 6.7.9p10), its end (5.1.2.2.3) and what it shows; and passing a test.
use Rattle.std.specs.Prelude.{◌≡◌, ℕ, zero, suc, ◌+◌, ℤ, pos, true, false, List, [], ◌∷◌, ◌++◌, length, replicate, Option, Some, None, Result, Ok, Err, slice_get}
use Rattle.ax_prog.specs.declared.Ty.{Ty, Ptr', Array', more_of-Ty, end_of-Ty}
use Rattle.ax_prog.specs.declared.Ty.TheVariants as ty
use Rattle.ax_prog.specs.declared.VarId.{VarId}
use Rattle.ax_prog.specs.declared.SlotId.{SlotId}
use Rattle.ax_prog.specs.declared.Slot.{Slot}
use Rattle.ax_prog.specs.declared.Struct.{Struct}
use Rattle.ax_prog.specs.declared.Init.{Init}
use Rattle.ax_prog.specs.declared.Init.TheVariants as init
use Rattle.ax_prog.specs.declared.Program.{Program}
use Rattle.ax_prog.specs.declared.Test.{Test}
use Rattle.ax_meaning.specs.declared.Why.TheVariants.{NoValue}
use Rattle.ax_meaning.specs.declared.Pointer.TheVariants.{Null}
use Rattle.ax_meaning.specs.declared.Cell.{Cell}
use Rattle.ax_meaning.specs.declared.Cell.TheVariants.{Empty, Int, Ptr}
use Rattle.ax_meaning.specs.declared.Store.{Store}
use Rattle.ax_meaning.specs.declared.State.{State}
use Rattle.ax_meaning.specs.declared.RunEnd.{RunEnd}
use Rattle.ax_meaning.specs.declared.RunEnd.TheVariants as end
use Rattle.ax_meaning.specs.declared.Run.{Run}
use Rattle.ax_meaning.specs.Answer.{Answer}
use Rattle.ax_meaning.specs.Types.{or_zero, type_of_var}
use Rattle.ax_meaning.specs.Values.{value_of}
use Rattle.ax_meaning.specs.Acts.{Halt, Undefined, OutOfSteps, Setting, with_object, listed, cells_of_var}
use Rattle.ax_meaning.specs.Execution.{Ending, Next, Broke, Continued, Returned, Stopped, Unfinished, Outcome, calls}

-- ---- the start of a run

abbrev pub repeated : ℕ → List Cell → List Cell
repeated zero cells = []
repeated (suc n) cells = cells ++ repeated n cells

abbrev pub or_nothing : Option (List Cell) → List Cell
or_nothing None = []
or_nothing (Some cells) = cells

-- 6.7.9p10: a zero for each int of a type and null for each pointer, where these are the zeros of the structs
abbrev pub zeros : List (List Cell) → Ty → List Cell
zeros structs ty.Int = Int (pos 0) ∷ []
zeros structs (Ptr' sh row) = Ptr Null ∷ []
zeros structs (Array' sh (more_of-Ty t end_of-Ty) n) = repeated n (zeros structs t)
zeros structs (ty.Struct k) = or_nothing (slice_get structs k.0)

abbrev pub zeros_of_fields : List (List Cell) → List (List ℕ × Ty) → List Cell
zeros_of_fields structs [] = []
zeros_of_fields structs (field ∷ rest) = zeros structs field.1 ++ zeros_of_fields structs rest

-- the zeros of each struct; its members are of earlier structs
abbrev pub zeros_after : List (List Cell) → List Struct → List (List Cell)
zeros_after done [] = done
zeros_after done (s ∷ rest) = zeros_after (done ++ zeros_of_fields done s.fields ∷ []) rest

-- 6.7.9p10 and p21: what a global object starts with. The initialiser of an `int` is a list of one number, and the only other one
-- is null for a pointer.
abbrev pub global_cells : Program → VarId → Init → List Cell
global_cells p v (init.List ns) = listed (cells_of_var p v) ns
global_cells p v init.Nothing = zeros (zeros_after [] p.structs) (type_of_var (slice_get p.vars v.0))
global_cells p v (init.Value w) = zeros (zeros_after [] p.structs) (type_of_var (slice_get p.vars v.0))

-- 5.1.2p1: the objects with static storage begin before the run, without a step
abbrev pub enter_globals : Program → List (VarId × Init) → State → State
enter_globals p [] st = st
enter_globals p (g ∷ rest) st = enter_globals p rest (with_object g.0 (global_cells p g.0 g.1) st)

abbrev pub at_start : Program → List ℤ → State
at_start p inputs =
    enter_globals p p.globals
    (record {
      store = record { cells = []; objects = []; named = replicate (length p.vars) None };
      inputs = inputs;
      output = [];
      used = 0;
      counts = replicate (length p.slots) 0;
      notes = [];
    })

-- ---- the end of a run

-- the number that `main` returned
abbrev pub ending_of_main : Option Cell → Ending
ending_of_main None = Stopped (Undefined NoValue)
ending_of_main (Some Empty) = Stopped (Undefined NoValue)
ending_of_main (Some (Int n)) = Returned (Some (Int n))
ending_of_main (Some (Ptr q)) = Stopped (Undefined NoValue)

abbrev pub ending_of_run : Ending → Ending
ending_of_run Next = ending_of_main None
ending_of_run Broke = ending_of_main None
ending_of_run Continued = ending_of_main None
ending_of_run (Returned v) = ending_of_main v
ending_of_run (Stopped why) = Stopped why
ending_of_run Unfinished = Unfinished

-- What a run shows: how it ended, what it printed, the steps used and the evaluations begun of each slot.
pub record Seen : Type 0 where
  pub ending : Ending
  pub output : List ℤ
  pub used : ℕ
  pub counts : List ℕ

abbrev pub seen : Ending → State → Seen
seen e st = record { ending = ending_of_run e; output = st.output; used = st.used; counts = st.counts }

abbrev pub seen_of : Outcome → Seen
seen_of out = seen out.ending out.state

-- ---- runs

-- 5.1.2.2.1: `main` is called, without a step
abbrev pub outcome_of : Setting → List ℤ → Outcome
outcome_of r inputs = calls r (suc r.steps) ((r.program).main).0 [] (at_start r.program inputs)

abbrev pub seen_in : Setting → List ℤ → Seen
seen_in r inputs = seen_of (outcome_of r inputs)

abbrev pub value_in_slot : Program → Store → Option Slot → Answer ℤ
value_in_slot p m None = Err NoValue
value_in_slot p m (Some slot) = value_of p m slot.expr

abbrev pub or_halt : Answer ℤ → Result ℤ Halt
or_halt (Err why) = Err (Undefined why)
or_halt (Ok z) = Ok z

-- a plain run: each slot has the value of its tree
abbrev pub plain_setting : Program → ℕ → Setting
plain_setting p steps = record {
  program = p;
  steps = steps;
  value = λ id st. or_halt (value_in_slot p st.store (slice_get p.slots id.0));
  goes_on = λ out. true;
  notes_value = λ id. false;
  notes_truth = false;
}

-- the run of a program on these inputs with this bound on its steps
abbrev pub run_of : Program → List ℤ → ℕ → Seen
run_of p inputs steps = seen_in (plain_setting p steps) inputs

-- the evaluations begun of these slots
abbrev pub evaluations : List SlotId → List ℕ → ℕ
evaluations [] counts = 0
evaluations (id ∷ ids) counts = or_zero (slice_get counts id.0) + evaluations ids counts

-- A program passes a test within so many steps where its run returns, and its number and its output are the expected ones.
pub record Passes (p : Program) (steps : ℕ) (test : Test) : Type 0 where
  pub returned : (run_of p test.inputs steps).ending ≡ Returned (Some (Int test.ret))
  pub printed : (run_of p test.inputs steps).output ≡ test.outputs

-- what a finished run shows
abbrev pub shown : Run → Seen
shown run = shown_end run.end run.used run.counts
  where
    shown_end : RunEnd → ℕ → List ℕ → Seen
    shown_end (end.Returned out ret) used counts = record { ending = Returned (Some (Int ret)); output = out; used = used; counts = counts }
    shown_end (end.Undefined why out) used counts = record { ending = Stopped (Undefined why); output = out; used = used; counts = counts }
    shown_end (end.OutOfSteps out) used counts = record { ending = Stopped OutOfSteps; output = out; used = used; counts = counts }
