-- What has ended stays so through each op.
use Rattle.std.proofs.Common.{◌≡◌, ℕ, ◌+◌, Bool, true, false, if◌then◌else◌, List, [], ◌∷◌, ◌++◌, Option, Some, None, sym, subst}
use Rattle.std.specs.Prelude.{ℤ, pos, slice_get, slice_set, nat_lt, Result, Ok, Err}
use Rattle.ax_base.specs.Arithmetic.{is_nonzero}
use Rattle.ax_prog.specs.declared.SlotId.{SlotId}
use Rattle.ax_prog.specs.declared.VarId.{VarId}
use Rattle.ax_prog.specs.declared.Fun.{Fun}
use Rattle.ax_prog.specs.declared.FunId.{FunId}
use Rattle.ax_prog.specs.declared.Arg.{Arg}
use Rattle.ax_prog.specs.declared.Arg.TheVariants as arg
use Rattle.ax_prog.specs.declared.Lval.{Lval}
use Rattle.ax_prog.specs.declared.Lval.TheVariants as lval
use Rattle.ax_prog.specs.declared.Bin.{Bin}
use Rattle.ax_prog.specs.declared.Pexpr.{Pexpr}
use Rattle.ax_prog.specs.declared.Value.TheVariants as value
use Rattle.ax_prog.specs.declared.Init.{Init}
use Rattle.ax_prog.specs.declared.Init.TheVariants as init
use Rattle.ax_meaning.specs.declared.Cell.{Cell}
use Rattle.ax_meaning.specs.declared.Cell.TheVariants.{Int, Ptr}
use Rattle.ax_meaning.specs.declared.Extent.{Extent}
use Rattle.ax_meaning.specs.declared.Place.{Place}
use Rattle.ax_meaning.specs.declared.Note.{Note}
use Rattle.ax_meaning.specs.declared.Note.TheVariants.{Met, Took}
use Rattle.ax_meaning.specs.declared.State.{State}
use Rattle.ax_meaning.specs.declared.Store.{Store}
use Rattle.ax_meaning.specs.Answer.{Answer, with_value}
use Rattle.ax_meaning.specs.Types.{or_zero}
use Rattle.ax_meaning.specs.Store.{index_of, stored_at, end_named}
use Rattle.ax_meaning.specs.Values.{place_of, pointer_of}
use Rattle.ax_meaning.specs.Acts.{Halt, Setting, Got, Done, Halted, got_then, got_of, got_answer, step_if, step, note, count, slot_value, put, with_object, Source, from_int, from_pointer, from_call, assign, blank, listed, cells_of_var, keep, declare, changed_cell, change, bump_by, bump, take_input, read, done_if, print, condition, always, from_arg, arg_values, call_args, give}
use Rattle.ax_meaning.specs.Execution.{enter, value_at_end}
use Rattle.ax_interp_acts.specs.declared.sources.Source.{Source as From}
use Rattle.ax_interp_acts.specs.declared.sources.Source.TheVariants as from
use Rattle.ax_interp_acts.specs.Sources.{source_of}
use Rattle.ax_flow.specs.declared.Rhs.{Rhs}
use Rattle.ax_flow.specs.declared.Rhs.TheVariants as rhs
use Rattle.ax_flow.specs.declared.Op.{Op}
use Rattle.ax_flow.specs.declared.Op.TheVariants.{Decl, Keep, Assign, Change, Bump, Call, Return, Fall, Test, Always, Jump, End, Read, Print}
use Rattle.ax_flow.specs.declared.Frame.{Frame}
use Rattle.ax_flow.specs.Machine.{Calls, Here, Move, Go, Stay, moves, goes_to, further, returned, source, entered, call_move, act}
use Rattle.ax_interp.specs.declared.machine.Gap.{Gap}
use Rattle.ax_interp.specs.declared.machine.Machine.{Machine}
use Rattle.ax_interp.specs.declared.machine.Finish.{Finish}
use Rattle.ax_interp.specs.Moves.{here_of, move_of}
use Rattle.ax_interp.specs.Gaps.{AllEnded, StayEnded, StillEnded}
use Rattle.ax_interp.proofs.Ended.{end_object_stays, end_from_stays, more_stay, all_stay}

-- what has ended among these objects stays so
module _ (gone : List Extent) where
  abbrev Stays : State → Type 0
  Stays st = StayEnded gone (st.store).objects

  abbrev pub Keeps : {A : Type 0} → Got A → Type 0
  Keeps (Done a st) = Stays st
  Keeps (Halted why st) = Stays st

  then_keeps : {A B : Type 0} (g : Got A) (go : A → State → Got B) → ((a : A) (st : State) → Stays st → Keeps (go a st)) → Keeps g → Keeps (got_then g go)
  then_keeps (Done a st) go h k = h a st k
  then_keeps (Halted why st) go h k = k

  answer_keeps : {A : Type 0} (a : Answer A) (st : State) → Stays st → Keeps (got_answer a st)
  answer_keeps (Err why) st k = k
  answer_keeps (Ok x) st k = k

  got_keeps : {A : Type 0} (a : Result A Halt) (st : State) → Stays st → Keeps (got_of a st)
  got_keeps (Err why) st k = k
  got_keeps (Ok x) st k = k

  pub step_keeps : (r : Setting) (st : State) → Stays st → Keeps (step r st)
  step_keeps r st k = by (nat_lt st.used r.steps)
    where
      by : (b : Bool) → Keeps (step_if b st)
      by true = k
      by false = k

  note_stays : (b : Bool) (x : Note) (st : State) → Stays st → Stays (note b x st)
  note_stays true x st k = k
  note_stays false x st k = k

  slot_keeps : (r : Setting) (id : SlotId) (st : State) → Stays st → Keeps (slot_value r id st)
  slot_keeps r id st k = got_keeps (r.value id st) (note (r.notes_value id) (Took id st.store) (count id st)) (note_stays (r.notes_value id) (Took id st.store) (count id st) k)

  written_keeps : (i : Answer ℕ) (c : Cell) (st : State) → Stays st → Keeps (got_then {A = Store} {B = Unit {0}} (got_answer (with_value (λ i. Ok (record st.store { cells = slice_set (st.store).cells i c })) i) st) (λ m st. Done tt (record st { store = m })))
  written_keeps (Err why) c st k = k
  written_keeps (Ok i) c st k = k

  -- a write changes cells alone
  put_keeps : (at : Place) (c : Cell) (st : State) → Stays st → Keeps (put at c st)
  put_keeps at c st k = written_keeps (index_of st.store at) c st k

  abbrev KeepsSource : Source → Type 0
  KeepsSource gives = (st : State) → Stays st → Keeps (gives st)

  int_source : (r : Setting) (id : SlotId) → KeepsSource (from_int r id)
  int_source r id st k = then_keeps (slot_value r id st) (λ n st. Done (Int n) st) (λ n st k. k) (slot_keeps r id st k)

  pointer_source : (r : Setting) (q : Pexpr) → KeepsSource (from_pointer r q)
  pointer_source r q st k = then_keeps (got_answer (pointer_of r.program st.store q) st) (λ q st. Done (Ptr q) st) (λ n st k. k) (answer_keeps (pointer_of r.program st.store q) st k)

  call_source : (v : Option Cell) → KeepsSource (from_call v)
  call_source None st k = k
  call_source (Some c) st k = k

  rhs_source : (r : Setting) (x : Rhs) (last : Option Cell) → KeepsSource (source r x last)
  rhs_source r (rhs.Int id) last = int_source r id
  rhs_source r (rhs.Ptr q) last = pointer_source r q
  rhs_source r rhs.Last last = call_source last

  pub from_source : (r : Setting) (x : From) → KeepsSource (source_of r x)
  from_source r (from.Int id) = int_source r id
  from_source r (from.Ptr q) = pointer_source r q.now
  from_source r (from.Call v) = call_source v

  source_keeps : (gives : Source) → KeepsSource gives → (at : Place) (st : State) → Stays st → Keeps (got_then (gives st) (λ c st. put at c st))
  source_keeps gives h at st k = then_keeps (gives st) (λ c st. put at c st) (λ c st k. put_keeps at c st k) (h st k)

  -- what follows the reading of a place
  at_place : (r : Setting) (l : Lval) (go : Place → State → Got (Unit {0})) → ((at : Place) (st : State) → Stays st → Keeps (go at st)) → (st : State) → Stays st → Keeps (got_then (got_answer (place_of r.program st.store l) st) go)
  at_place r l go h st k = then_keeps (got_answer (place_of r.program st.store l) st) go h (answer_keeps (place_of r.program st.store l) st k)

  keep_keeps : (r : Setting) (v : VarId) (gives : Source) → KeepsSource gives → (st : State) → Stays st → Keeps (keep r v gives st)
  keep_keeps r v gives h = at_place r (lval.Var v) (λ at st. got_then (gives st) (λ c st. put at c st)) (source_keeps gives h)

  -- what follows a step and the reading of a place
  after_place : (r : Setting) (l : Lval) (go : Place → State → Got (Unit {0})) → ((at : Place) (st : State) → Stays st → Keeps (go at st)) → (st : State) → Stays st → Keeps (got_then (step r st) (λ u st. got_then (got_answer (place_of r.program st.store l) st) go))
  after_place r l go h st k = then_keeps (step r st) (λ u st. got_then (got_answer (place_of r.program st.store l) st) go) (λ u st k. at_place r l go h st k) (step_keeps r st k)

  -- ---- acts

  assign_keeps : (r : Setting) (l : Lval) (gives : Source) → KeepsSource gives → (st : State) → Stays st → Keeps (assign r l gives st)
  assign_keeps r l gives h = after_place r l (λ at st. got_then (gives st) (λ c st. put at c st)) (source_keeps gives h)

  pub give_keeps : (r : Setting) (gives : Source) → KeepsSource gives → (st : State) → Stays st → Keeps (give r gives st)
  give_keeps r gives h st k = then_keeps (step r st) (λ u st. gives st) (λ u st k. h st k) (step_keeps r st k)

  begun_stays : (v : VarId) (cells : List Cell) (st : State) → Stays st → Stays (with_object v cells st)
  begun_stays v cells st k i e = more_stay (st.store).objects _ i (k i e)

  declare_keeps : (r : Setting) (v : VarId) (i : Init) (st : State) → Stays st → Keeps (declare r v i st)
  declare_keeps r v init.Nothing st k = then_keeps (step r st) (λ u st. Done tt (with_object v (blank r.program v) st)) (λ u st k. begun_stays v (blank r.program v) st k) (step_keeps r st k)
  declare_keeps r v (init.List ns) st k =
      then_keeps (step r st) (λ u st. Done tt (with_object v (listed (cells_of_var r.program v) ns) st)) (λ u st k. begun_stays v (listed (cells_of_var r.program v) ns) st k) (step_keeps r st k)
  declare_keeps r v (init.Value (value.Int id)) st k =
      then_keeps (step r st) (λ u st. keep r v (from_int r id) (with_object v (blank r.program v) st))
      (λ u st k. keep_keeps r v (from_int r id) (int_source r id) (with_object v (blank r.program v) st) (begun_stays v (blank r.program v) st k)) (step_keeps r st k)
  declare_keeps r v (init.Value (value.Ptr q)) st k =
      then_keeps (step r st) (λ u st. keep r v (from_pointer r q) (with_object v (blank r.program v) st))
      (λ u st k. keep_keeps r v (from_pointer r q) (pointer_source r q) (with_object v (blank r.program v) st) (begun_stays v (blank r.program v) st k)) (step_keeps r st k)
  declare_keeps r v (init.Value (value.Call f args)) st k = k

  changed_keeps : (at : Place) (a : Answer Cell) (st : State) → Stays st → Keeps (got_then (got_answer a st) (λ c st. put at c st))
  changed_keeps at a st k = then_keeps (got_answer a st) (λ c st. put at c st) (λ c s k. put_keeps at c s k) (answer_keeps a st k)

  change_keeps : (r : Setting) (l : Lval) (op : Bin) (id : SlotId) (st : State) → Stays st → Keeps (change r l op id st)
  change_keeps r l op id =
      after_place r l (λ at st. got_then (got_answer (stored_at st.store at) st) (λ old st. got_then (slot_value r id st) (λ n st. got_then (got_answer (changed_cell op old n) st) (λ c st. put at c st))))
      (λ at st k. then_keeps (got_answer (stored_at st.store at) st) (λ old st. got_then (slot_value r id st) (λ n st. got_then (got_answer (changed_cell op old n) st) (λ c st. put at c st)))
      (λ old s k. then_keeps (slot_value r id s) (λ n st. got_then (got_answer (changed_cell op old n) st) (λ c st. put at c st)) (λ n s k. changed_keeps at (changed_cell op old n) s k) (slot_keeps r id s k))
      (answer_keeps (stored_at st.store at) st k))

  bump_keeps : (r : Setting) (l : Lval) (up : Bool) (st : State) → Stays st → Keeps (bump r l up st)
  bump_keeps r l up =
      after_place r l (λ at st. got_then (got_answer (stored_at st.store at) st) (λ old st. got_then (got_answer (changed_cell (bump_by up) old (pos 1)) st) (λ c st. put at c st)))
      (λ at st k. then_keeps (got_answer (stored_at st.store at) st) (λ old st. got_then (got_answer (changed_cell (bump_by up) old (pos 1)) st) (λ c st. put at c st))
      (λ old s k. changed_keeps at (changed_cell (bump_by up) old (pos 1)) s k) (answer_keeps (stored_at st.store at) st k))

  input_keeps : (at : Place) (ins : List ℤ) (st : State) → Stays st → Keeps (take_input at ins st)
  input_keeps at [] st k = k
  input_keeps at (z ∷ zs) st k = put_keeps at (Int z) (record st { inputs = zs }) k

  read_keeps : (r : Setting) (l : Lval) (st : State) → Stays st → Keeps (read r l st)
  read_keeps r l = after_place r l (λ at st. take_input at st.inputs st) (λ at st k. input_keeps at st.inputs st k)

  done_keeps : (b : Bool) (st : State) → Stays st → Keeps (done_if b st)
  done_keeps true st k = k
  done_keeps false st k = k

  print_keeps : (r : Setting) (id : SlotId) (st : State) → Stays st → Keeps (print r id st)
  print_keeps r id st k =
      then_keeps (step r st) (λ u st. got_then (slot_value r id st) (λ n st. done_if (r.goes_on (st.output ++ n ∷ [])) (record st { output = st.output ++ n ∷ [] })))
      (λ u st k. then_keeps (slot_value r id st) (λ n st. done_if (r.goes_on (st.output ++ n ∷ [])) (record st { output = st.output ++ n ∷ [] }))
      (λ n s k. done_keeps (r.goes_on (s.output ++ n ∷ [])) (record s { output = s.output ++ n ∷ [] }) k) (slot_keeps r id st k)) (step_keeps r st k)

  condition_keeps : (r : Setting) (id : SlotId) (st : State) → Stays st → Keeps (condition r id st)
  condition_keeps r id st k =
      then_keeps (step r st) (λ u st. got_then (slot_value r id st) (λ n st. Done (is_nonzero n) (note r.notes_truth (Met (is_nonzero n)) st)))
      (λ u st k. then_keeps (slot_value r id st) (λ n st. Done (is_nonzero n) (note r.notes_truth (Met (is_nonzero n)) st))
      (λ n s k. note_stays r.notes_truth (Met (is_nonzero n)) s k) (slot_keeps r id st k)) (step_keeps r st k)

  always_keeps : (r : Setting) (st : State) → Stays st → Keeps (always r st)
  always_keeps r st k = then_keeps (step r st) (λ u st. Done true (note r.notes_truth (Met true) st)) (λ u st k. note_stays r.notes_truth (Met true) st k) (step_keeps r st k)

  -- ---- calls

  arg_source : (r : Setting) (a : Arg) → KeepsSource (from_arg r a)
  arg_source r (arg.Int id) = int_source r id
  arg_source r (arg.Ptr q) = pointer_source r q

  args_keep : (r : Setting) (args : List Arg) (cells : List Cell) (st : State) → Stays st → Keeps (arg_values r args cells st)
  args_keep r [] cells st k = k
  args_keep r (a ∷ rest) cells st k = then_keeps (from_arg r a st) (λ c st. arg_values r rest (cells ++ c ∷ []) st) (λ c st k. args_keep r rest (cells ++ c ∷ []) st k) (arg_source r a st k)

  call_args_keep : (r : Setting) (args : List Arg) (st : State) → Stays st → Keeps (call_args r args st)
  call_args_keep r args st k = then_keeps (step r st) (λ u st. arg_values r args [] st) (λ u st k. args_keep r args [] st k) (step_keeps r st k)

  enter_stays : (vs : List VarId) (cells : List Cell) (st : State) → Stays st → Stays (enter vs cells st)
  enter_stays [] cells st k = k
  enter_stays (v ∷ vs) [] st k = k
  enter_stays (v ∷ vs) (c ∷ cs) st k = enter_stays vs cs (with_object v (c ∷ []) st) (begun_stays v (c ∷ []) st k)

  -- ---- ops

  abbrev pub MoveKeeps : Move → Type 0
  MoveKeeps (Go h) = Stays h.state
  MoveKeeps (Stay f) = Unit {0}

  moves_keep : {A : Type 0} (g : Got A) (go : A → State → Move) → ((a : A) (st : State) → Stays st → MoveKeeps (go a st)) → Keeps g → MoveKeeps (moves g go)
  moves_keep (Done a st) go h k = h a st k
  moves_keep (Halted why st) go h k = tt

  further_keeps : (h : Here) (g : Got (Unit {0})) → Keeps g → MoveKeeps (further h g)
  further_keeps h g k = moves_keep g (λ u st. goes_to (h.place + 1) h st) (λ u st k. k) k

  returned_keeps : (callers : List Frame) (v : Option Cell) (st : State) → Stays st → MoveKeeps (returned callers v st)
  returned_keeps [] v st k = tt
  returned_keeps (f ∷ callers) v st k = λ i e. end_from_stays f.objects (st.store).objects i (k i e)

  entered_keeps : (fun : Option Fun) (f : FunId) (start back : ℕ) (calls : Calls) (cells : List Cell) (st : State) → Stays st → MoveKeeps (entered fun f start back calls cells st)
  entered_keeps None f start back calls cells st k = tt
  entered_keeps (Some fun) f start back calls cells st k = enter_stays fun.params cells st k

  named_stays : (o : Option (Option ℕ)) (m : Store) → StayEnded gone m.objects → StayEnded gone (end_named o m).objects
  named_stays None m k = k
  named_stays (Some None) m k = k
  named_stays (Some (Some o)) m k = λ i e. end_object_stays o m.objects i (k i e)

  act_keeps : (r : Setting) (starts : List ℕ) (op : Option Op) (h : Here) → Stays h.state → MoveKeeps (act r starts op h)
  act_keeps r starts None h k = tt
  act_keeps r starts (Some (Decl v i)) h k = further_keeps h (declare r v i h.state) (declare_keeps r v i h.state k)
  act_keeps r starts (Some (Keep v)) h k = further_keeps h (keep r v (from_call h.last) h.state) (keep_keeps r v (from_call h.last) (call_source h.last) h.state k)
  act_keeps r starts (Some (Assign l x)) h k = further_keeps h (assign r l (source r x h.last) h.state) (assign_keeps r l (source r x h.last) (rhs_source r x h.last) h.state k)
  act_keeps r starts (Some (Change l op id)) h k = further_keeps h (change r l op id h.state) (change_keeps r l op id h.state k)
  act_keeps r starts (Some (Bump l up)) h k = further_keeps h (bump r l up h.state) (bump_keeps r l up h.state k)
  act_keeps r starts (Some (Call f args)) h k =
      moves_keep (call_args r args h.state) (call_move r starts f (h.place + 1) h.calls)
      (λ cells st k. entered_keeps (slice_get (r.program).funs f.0) f (or_zero (slice_get starts f.0)) (h.place + 1) h.calls cells st k) (call_args_keep r args h.state k)
  act_keeps r starts (Some (Return None)) h k = moves_keep (step r h.state) (λ u st. returned (h.calls).callers None st) (λ u st k. returned_keeps (h.calls).callers None st k) (step_keeps r h.state k)
  act_keeps r starts (Some (Return (Some x))) h k =
      moves_keep (give r (source r x h.last) h.state) (λ c st. returned (h.calls).callers (Some c) st) (λ c st k. returned_keeps (h.calls).callers (Some c) st k)
      (give_keeps r (source r x h.last) (rhs_source r x h.last) h.state k)
  act_keeps r starts (Some Fall) h k = returned_keeps (h.calls).callers (value_at_end r.program ((h.calls).running).0) h.state k
  act_keeps r starts (Some (Test id t)) h k = moves_keep (condition r id h.state) (λ y st. goes_to (if y then h.place + 1 else t) h st) (λ y st k. k) (condition_keeps r id h.state k)
  act_keeps r starts (Some Always) h k = moves_keep (always r h.state) (λ y st. goes_to (h.place + 1) h st) (λ y st k. k) (always_keeps r h.state k)
  act_keeps r starts (Some (Jump t)) h k = k
  act_keeps r starts (Some (End v)) h k = named_stays (slice_get ((h.state).store).named v.0) (h.state).store k
  act_keeps r starts (Some (Read l)) h k = further_keeps h (read r l h.state) (read_keeps r l h.state k)
  act_keeps r starts (Some (Print id)) h k = further_keeps h (print r id h.state) (print_keeps r id h.state k)

-- the gaps stay right through an op that leaves them as they are
pub still_ended : (r : Setting) (starts : List ℕ) (op : Option Op) (end : Option Finish) (gaps : List Gap) (old new : Machine) →
    move_of end new ≡ act r starts op (here_of old) → AllEnded gaps ((old.state).store).objects → StillEnded end gaps new
still_ended r starts op (Some end) gaps old new e all = tt
still_ended r starts op None gaps old new e all =
    let objects = ((old.state).store).objects in
    all_stay gaps objects ((new.state).store).objects (subst (MoveKeeps objects) (sym e) (act_keeps objects r starts op (here_of old) (λ i d. d))) all

-- nor does an act change them
pub done_ended : {A : Type 0} (g : Got A) (gaps : List Gap) (x : A) (old new : State) → Done x new ≡ g → Keeps (old.store).objects g → AllEnded gaps (old.store).objects → AllEnded gaps (new.store).objects
done_ended g gaps x old new e k all = all_stay gaps (old.store).objects (new.store).objects (subst (Keeps (old.store).objects) (sym e) k) all
