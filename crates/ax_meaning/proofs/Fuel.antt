-- No run ends `Unfinished`: each turn of a loop and each call takes a step, so the bounds on turns and on open calls outlast the
-- steps. And no run uses more steps than it may.
use Rattle.std.proofs.Common.{◌≡◌, ℕ, zero, suc, ◌+◌, ◌<◌, ◌≤◌, Bool, true, false, if◌then◌else◌, List, [], ◌∷◌, ◌++◌, Option, Some, None, refl, subst, arith}
use Rattle.std.proofs.lemmas.Bool.{ltb-true}
use Rattle.std.specs.Prelude.{ℤ, pos, slice_get, nat_lt, Result, Ok, Err}
use Rattle.ax_base.specs.Arithmetic.{is_nonzero}
use Rattle.ax_prog.specs.declared.SlotId.{SlotId}
use Rattle.ax_prog.specs.declared.VarId.{VarId}
use Rattle.ax_prog.specs.declared.FunId.{FunId}
use Rattle.ax_prog.specs.declared.Arg.{Arg}
use Rattle.ax_prog.specs.declared.Arg.TheVariants as arg
use Rattle.ax_prog.specs.declared.Fun.{Fun}
use Rattle.ax_prog.specs.declared.Lval.{Lval}
use Rattle.ax_prog.specs.declared.Lval.TheVariants as lval
use Rattle.ax_prog.specs.declared.Bin.{Bin}
use Rattle.ax_prog.specs.declared.Pexpr.{Pexpr}
use Rattle.ax_prog.specs.declared.Value.{Value}
use Rattle.ax_prog.specs.declared.Value.TheVariants as value
use Rattle.ax_prog.specs.declared.Init.{Init}
use Rattle.ax_prog.specs.declared.Init.TheVariants as init
use Rattle.ax_prog.specs.declared.Program.{Program}
use Rattle.ax_prog.specs.declared.Stmt.{Stmt, Block', If', While', Do', For', Row_of-Stmt, end_of-Stmt, more_of-Stmt, Held-Stmt-If-2, None', Some'}
use Rattle.ax_prog.specs.declared.Stmt.TheVariants as s
use Rattle.ax_meaning.specs.declared.Cell.{Cell}
use Rattle.ax_meaning.specs.declared.Cell.TheVariants.{Empty, Int, Ptr}
use Rattle.ax_meaning.specs.declared.Place.{Place}
use Rattle.ax_meaning.specs.declared.Note.{Note}
use Rattle.ax_meaning.specs.declared.Note.TheVariants.{Met, Took}
use Rattle.ax_meaning.specs.declared.State.{State}
use Rattle.ax_meaning.specs.Answer.{Answer}
use Rattle.ax_meaning.specs.Store.{write, stored_at}
use Rattle.ax_meaning.specs.Values.{place_of, pointer_of}
use Rattle.ax_meaning.specs.Acts.{Halt, Setting, Got, Done, Halted, got_then, got_of, got_answer, step_if, step, note, count, slot_value, put, with_object, Source, from_int, from_pointer, from_call, assign, blank, listed, cells_of_var, keep, declare, changed_cell, change, bump_by, bump, take_input, read, done_if, print, condition, condition_or_true, from_arg, arg_values, call_args, give}
use Rattle.ax_meaning.specs.Execution.{Ending, Next, Broke, Continued, Returned, Stopped, Unfinished, Outcome, ends, after_act, one_act, after, then_do, end_all, after_in, then_in, ends_block, declared_by, after_body, then_again, next_turn, turns, ends_next, Caller, after_call, then_with, call_with, assign_outcome, declare_outcome, returns, return_outcome, execution_of, row_execution, held_execution, body_execution, enter, value_at_end, call_ending, restored, fun_outcome, calls}
use Rattle.ax_meaning.specs.Runs.{global_cells, enter_globals, at_start, ending_of_main, ending_of_run, outcome_of, seen_in}

-- ---- an act takes no step after its first

abbrev pub Keeps : {A : Type 0} → ℕ → Got A → Type 0
Keeps u (Done a st) = st.used ≡ u
Keeps u (Halted why st) = st.used ≡ u

then_keeps : {A B : Type 0} (u : ℕ) (g : Got A) (go : A → State → Got B) → ((a : A) (st : State) → st.used ≡ u → Keeps u (go a st)) → Keeps u g → Keeps u (got_then g go)
then_keeps u (Done a st) go h k = h a st k
then_keeps u (Halted why st) go h k = k

answer_keeps : {A : Type 0} (u : ℕ) (a : Answer A) (st : State) → st.used ≡ u → Keeps u (got_answer a st)
answer_keeps u (Err why) st k = k
answer_keeps u (Ok x) st k = k

note_used : (b : Bool) (x : Note) (u : ℕ) (st : State) → st.used ≡ u → (note b x st).used ≡ u
note_used true x u st k = k
note_used false x u st k = k

put_keeps : (u : ℕ) (at : Place) (c : Cell) (st : State) → st.used ≡ u → Keeps u (put at c st)
put_keeps u at c st k = then_keeps u (got_answer (write st.store at c) st) (λ m st. Done tt (record st { store = m })) (λ m st k. k) (answer_keeps u (write st.store at c) st k)

abbrev KeepsSource : Source → Type 0
KeepsSource source = (u : ℕ) (st : State) → st.used ≡ u → Keeps u (source st)

got_keeps : {A : Type 0} (u : ℕ) (a : Result A Halt) (st : State) → st.used ≡ u → Keeps u (got_of a st)
got_keeps u (Err why) st k = k
got_keeps u (Ok x) st k = k

slot_keeps : (r : Setting) (id : SlotId) (u : ℕ) (st : State) → st.used ≡ u → Keeps u (slot_value r id st)
slot_keeps r id u st k = got_keeps u (r.value id st) (note (r.notes_value id) (Took id st.store) (count id st)) (note_used (r.notes_value id) (Took id st.store) u (count id st) k)

int_source : (r : Setting) (id : SlotId) → KeepsSource (from_int r id)
int_source r id u st k = then_keeps u (slot_value r id st) (λ n st. Done (Int n) st) (λ n st k. k) (slot_keeps r id u st k)

pointer_source : (r : Setting) (q : Pexpr) → KeepsSource (from_pointer r q)
pointer_source r q u st k = then_keeps u (got_answer (pointer_of r.program st.store q) st) (λ q st. Done (Ptr q) st) (λ n st k. k) (answer_keeps u (pointer_of r.program st.store q) st k)

call_source : (v : Option Cell) → KeepsSource (from_call v)
call_source None u st k = k
call_source (Some c) u st k = k

source_keeps : (source : Source) → KeepsSource source → (u : ℕ) (at : Place) (st : State) → st.used ≡ u → Keeps u (got_then (source st) (λ c st. put at c st))
source_keeps source h u at st k = then_keeps u (source st) (λ c st. put at c st) (λ c st k. put_keeps u at c st k) (h u st k)

keep_keeps : (r : Setting) (v : VarId) (source : Source) → KeepsSource source → (u : ℕ) (st : State) → st.used ≡ u → Keeps u (keep r v source st)
keep_keeps r v source h u st k =
    then_keeps u (got_answer (place_of r.program st.store (lval.Var v)) st) (λ at st. got_then (source st) (λ c st. put at c st))
    (λ at st k. source_keeps source h u at st k) (answer_keeps u (place_of r.program st.store (lval.Var v)) st k)

input_keeps : (u : ℕ) (at : Place) (ins : List ℤ) (st : State) → st.used ≡ u → Keeps u (take_input at ins st)
input_keeps u at [] st k = k
input_keeps u at (z ∷ zs) st k = put_keeps u at (Int z) (record st { inputs = zs }) k

arg_source : (r : Setting) (a : Arg) → KeepsSource (from_arg r a)
arg_source r (arg.Int id) = int_source r id
arg_source r (arg.Ptr q) = pointer_source r q

args_keep : (r : Setting) (u : ℕ) (args : List Arg) (cells : List Cell) (st : State) → st.used ≡ u → Keeps u (arg_values r args cells st)
args_keep r u [] cells st k = k
args_keep r u (a ∷ rest) cells st k = then_keeps u (from_arg r a st) (λ c st. arg_values r rest (cells ++ c ∷ []) st) (λ c st k. args_keep r u rest (cells ++ c ∷ []) st k) (arg_source r a u st k)

-- ---- steps

-- from lo steps used, and at least hi where there is a value
abbrev FineGot : {A : Type 0} → ℕ → ℕ → ℕ → Got A → Type 0
FineGot limit lo hi (Done a st) = (hi ≤ st.used) × (st.used ≤ limit)
FineGot limit lo hi (Halted why st) = (lo ≤ st.used) × (st.used ≤ limit)

kept_fine : {A : Type 0} (limit lo u : ℕ) (g : Got A) → lo < u → u ≤ limit → Keeps u g → FineGot limit lo (suc lo) g
kept_fine limit lo u (Done a st) h l k = (omega (arith, k), omega (arith, k))
kept_fine limit lo u (Halted why st) h l k = (omega (arith, k), omega (arith, k))

step_fine : {A : Type 0} (r : Setting) (st : State) (go : Unit {0} → State → Got A) → st.used ≤ r.steps → ((st : State) → Keeps st.used (go tt st)) → FineGot r.steps st.used (suc st.used) (got_then (step r st) go)
step_fine {A} r st go l h = by (nat_lt st.used r.steps) refl
  where
    by : (b : Bool) → nat_lt st.used r.steps ≡ b → FineGot r.steps st.used (suc st.used) (got_then (step_if b st) go)
    by true e = let below : st.used < r.steps = ltb-true _ _ e in kept_fine r.steps st.used (st.used + 1) (go tt (record st { used = st.used + 1 })) (omega arith) (omega arith) (h (record st { used = st.used + 1 }))
    by false e = (omega arith, l)

only_step_fine : (r : Setting) (st : State) → st.used ≤ r.steps → FineGot r.steps st.used (suc st.used) (step r st)
only_step_fine r st le = by (nat_lt st.used r.steps) refl
  where
    by : (b : Bool) → nat_lt st.used r.steps ≡ b → FineGot r.steps st.used (suc st.used) (step_if b st)
    by true e = let below : st.used < r.steps = ltb-true _ _ e in (omega arith, omega arith)
    by false e = (omega arith, le)

-- ---- the acts

assign_fine : (r : Setting) (l : Lval) (source : Source) → KeepsSource source → (st : State) → st.used ≤ r.steps → FineGot r.steps st.used (suc st.used) (assign r l source st)
assign_fine r l source h st le =
    step_fine r st (λ u st. got_then (got_answer (place_of r.program st.store l) st) (λ at st. got_then (source st) (λ c st. put at c st))) le
    (λ st. then_keeps st.used (got_answer (place_of r.program st.store l) st) (λ at st. got_then (source st) (λ c st. put at c st)) (λ at s k. source_keeps source h st.used at s k) (answer_keeps st.used (place_of r.program st.store l) st refl))

give_fine : (r : Setting) (source : Source) → KeepsSource source → (st : State) → st.used ≤ r.steps → FineGot r.steps st.used (suc st.used) (give r source st)
give_fine r source h st le = step_fine r st (λ u st. source st) le (λ st. h st.used st refl)

weaker : (limit lo : ℕ) (g : Got (Unit {0})) → FineGot limit lo (suc lo) g → FineGot limit lo lo g
weaker limit lo (Done u st) h = (omega (arith, h.0), h.1)
weaker limit lo (Halted why st) h = h

declare_fine : (r : Setting) (v : VarId) (i : Init) (st : State) → st.used ≤ r.steps → FineGot r.steps st.used st.used (declare r v i st)
declare_fine r v init.Nothing st le = weaker r.steps st.used (declare r v init.Nothing st) (step_fine r st (λ u st. Done tt (with_object v (blank r.program v) st)) le (λ st. refl))
declare_fine r v (init.List ns) st le = weaker r.steps st.used (declare r v (init.List ns) st) (step_fine r st (λ u st. Done tt (with_object v (listed (cells_of_var r.program v) ns) st)) le (λ st. refl))
declare_fine r v (init.Value (value.Call f args)) st le = (omega arith, le)
declare_fine r v (init.Value (value.Int id)) st le =
    weaker r.steps st.used (declare r v (init.Value (value.Int id)) st) (step_fine r st (λ u st. keep r v (from_int r id) (with_object v (blank r.program v) st)) le (λ st. keep_keeps r v (from_int r id) (int_source r id) st.used (with_object v (blank r.program v) st) refl))
declare_fine r v (init.Value (value.Ptr q)) st le =
    weaker r.steps st.used (declare r v (init.Value (value.Ptr q)) st) (step_fine r st (λ u st. keep r v (from_pointer r q) (with_object v (blank r.program v) st)) le (λ st. keep_keeps r v (from_pointer r q) (pointer_source r q) st.used (with_object v (blank r.program v) st) refl))

-- what follows the reading of a place
after_place : (r : Setting) (l : Lval) (go : Place → State → Got (Unit {0})) → ((u : ℕ) (at : Place) (st : State) → st.used ≡ u → Keeps u (go at st)) → (st : State) → st.used ≤ r.steps → FineGot r.steps st.used (suc st.used) (got_then (step r st) (λ u st. got_then (got_answer (place_of r.program st.store l) st) go))
after_place r l go h st le =
    step_fine r st (λ u st. got_then (got_answer (place_of r.program st.store l) st) go) le
    (λ st. then_keeps st.used (got_answer (place_of r.program st.store l) st) go (λ at s k. h st.used at s k) (answer_keeps st.used (place_of r.program st.store l) st refl))

put_answer_keeps : (u : ℕ) (at : Place) (a : Answer Cell) (st : State) → st.used ≡ u → Keeps u (got_then (got_answer a st) (λ c st. put at c st))
put_answer_keeps u at a st k = then_keeps u (got_answer a st) (λ c st. put at c st) (λ c s k. put_keeps u at c s k) (answer_keeps u a st k)

change_fine : (r : Setting) (l : Lval) (op : Bin) (id : SlotId) (st : State) → st.used ≤ r.steps → FineGot r.steps st.used (suc st.used) (change r l op id st)
change_fine r l op id =
    after_place r l (λ at st. got_then (got_answer (stored_at st.store at) st) (λ old st. got_then (slot_value r id st) (λ n st. got_then (got_answer (changed_cell op old n) st) (λ c st. put at c st))))
    (λ u at st k. then_keeps u (got_answer (stored_at st.store at) st) (λ old st. got_then (slot_value r id st) (λ n st. got_then (got_answer (changed_cell op old n) st) (λ c st. put at c st)))
    (λ old s k. then_keeps u (slot_value r id s) (λ n st. got_then (got_answer (changed_cell op old n) st) (λ c st. put at c st)) (λ n s k. put_answer_keeps u at (changed_cell op old n) s k) (slot_keeps r id u s k))
    (answer_keeps u (stored_at st.store at) st k))

bump_fine : (r : Setting) (l : Lval) (up : Bool) (st : State) → st.used ≤ r.steps → FineGot r.steps st.used (suc st.used) (bump r l up st)
bump_fine r l up =
    after_place r l (λ at st. got_then (got_answer (stored_at st.store at) st) (λ old st. got_then (got_answer (changed_cell (bump_by up) old (pos 1)) st) (λ c st. put at c st)))
    (λ u at st k. then_keeps u (got_answer (stored_at st.store at) st) (λ old st. got_then (got_answer (changed_cell (bump_by up) old (pos 1)) st) (λ c st. put at c st))
    (λ old s k. put_answer_keeps u at (changed_cell (bump_by up) old (pos 1)) s k) (answer_keeps u (stored_at st.store at) st k))

read_fine : (r : Setting) (l : Lval) (st : State) → st.used ≤ r.steps → FineGot r.steps st.used (suc st.used) (read r l st)
read_fine r l = after_place r l (λ at st. take_input at st.inputs st) (λ u at st k. input_keeps u at st.inputs st k)

done_keeps : (u : ℕ) (b : Bool) (st : State) → st.used ≡ u → Keeps u (done_if b st)
done_keeps u true st k = k
done_keeps u false st k = k

print_fine : (r : Setting) (id : SlotId) (st : State) → st.used ≤ r.steps → FineGot r.steps st.used (suc st.used) (print r id st)
print_fine r id st le =
    step_fine r st (λ u st. got_then (slot_value r id st) (λ n st. done_if (r.goes_on (st.output ++ n ∷ [])) (record st { output = st.output ++ n ∷ [] }))) le
    (λ st. then_keeps st.used (slot_value r id st) (λ n st. done_if (r.goes_on (st.output ++ n ∷ [])) (record st { output = st.output ++ n ∷ [] }))
    (λ n s k. done_keeps st.used (r.goes_on (s.output ++ n ∷ [])) (record s { output = s.output ++ n ∷ [] }) k) (slot_keeps r id st.used st refl))

condition_fine : (r : Setting) (id : SlotId) (st : State) → st.used ≤ r.steps → FineGot r.steps st.used (suc st.used) (condition r id st)
condition_fine r id st le =
    step_fine r st (λ u st. got_then (slot_value r id st) (λ n st. Done (is_nonzero n) (note r.notes_truth (Met (is_nonzero n)) st))) le
    (λ st. then_keeps st.used (slot_value r id st) (λ n st. Done (is_nonzero n) (note r.notes_truth (Met (is_nonzero n)) st))
    (λ n s k. note_used r.notes_truth (Met (is_nonzero n)) st.used s k) (slot_keeps r id st.used st refl))

or_true_fine : (r : Setting) (id : Option SlotId) (st : State) → st.used ≤ r.steps → FineGot r.steps st.used (suc st.used) (condition_or_true r id st)
or_true_fine r None st le = step_fine r st (λ u st. Done true (note r.notes_truth (Met true) st)) le (λ st. note_used r.notes_truth (Met true) st.used st refl)
or_true_fine r (Some id) st le = condition_fine r id st le

args_fine : (r : Setting) (args : List Arg) (st : State) → st.used ≤ r.steps → FineGot r.steps st.used (suc st.used) (call_args r args st)
args_fine r args st le = step_fine r st (λ u st. arg_values r args [] st) le (λ st. args_keep r st.used args [] st refl)

-- ---- outcomes

abbrev IsFinished : Ending → Type 0
IsFinished Next = Unit {0}
IsFinished Broke = Unit {0}
IsFinished Continued = Unit {0}
IsFinished (Returned v) = Unit {0}
IsFinished (Stopped why) = Unit {0}
IsFinished Unfinished = ⊥

module _ (r : Setting) where
  record Fine (lo : ℕ) (e : Ending) (st : State) : Type 0 where
    finished : IsFinished e
    later : lo ≤ st.used
    within : st.used ≤ r.steps

  abbrev FineOut : ℕ → Outcome → Type 0
  FineOut lo out = Fine lo out.ending out.state

  -- what goes on is fine from lo steps on
  abbrev FineGo : ℕ → (State → Outcome) → Type 0
  FineGo lo go = (st : State) → lo ≤ st.used → st.used ≤ r.steps → FineOut st.used (go st)

  lower_fine : (lo hi : ℕ) (e : Ending) (st : State) → lo ≤ hi → Fine hi e st → Fine lo e st
  lower_fine lo hi e st le f = record { finished = f.finished; later = omega (arith, f.later); within = f.within }

  act_fine : {A : Type 0} (lo hi : ℕ) (g : Got A) (f : A → State → Outcome) → lo ≤ hi → FineGot r.steps lo hi g → ((a : A) → FineGo hi (f a)) → FineOut lo (after_act g f)
  act_fine lo hi (Done a st) f le g h = lower_fine lo st.used (f a st).ending (f a st).state (omega (arith, g.0)) (h a st g.0 g.1)
  act_fine lo hi (Halted why st) f le g h = record { finished = tt; later = g.0; within = g.1 }

  after_fine : (lo : ℕ) (e : Ending) (st : State) (go : State → Outcome) → Fine lo e st → FineGo lo go → FineOut lo (after e st go)
  after_fine lo Next st go f h = lower_fine lo st.used (go st).ending (go st).state f.later (h st f.later f.within)
  after_fine lo Broke st go f h = f
  after_fine lo Continued st go f h = f
  after_fine lo (Returned v) st go f h = f
  after_fine lo (Stopped why) st go f h = f
  after_fine lo Unfinished st go f h = f

  same_steps : (lo : ℕ) (e : Ending) (st end : State) → end.used ≡ st.used → Fine lo e st → Fine lo e end
  same_steps lo e st end u f = record { finished = f.finished; later = omega (arith, u, f.later); within = omega (arith, u, f.within) }

  after_in_fine : (lo : ℕ) (vs : List VarId) (e : Ending) (st : State) (go : State → Outcome) → Fine lo e st → FineGo lo go → FineOut lo (after_in vs e st go)
  after_in_fine lo vs Next st go f h = lower_fine lo st.used (go st).ending (go st).state f.later (h st f.later f.within)
  after_in_fine lo vs Broke st go f h = same_steps lo Broke st (end_all vs st) refl f
  after_in_fine lo vs Continued st go f h = same_steps lo Continued st (end_all vs st) refl f
  after_in_fine lo vs (Returned v) st go f h = f
  after_in_fine lo vs (Stopped why) st go f h = f
  after_in_fine lo vs Unfinished st go f h = f

  again_fine : (lo : ℕ) (e : Ending) (st : State) (go : State → Outcome) → Fine lo e st → FineGo lo go → FineOut lo (after_body e st go)
  again_fine lo Next st go f h = lower_fine lo st.used (go st).ending (go st).state f.later (h st f.later f.within)
  again_fine lo Broke st go f h = record { finished = tt; later = f.later; within = f.within }
  again_fine lo Continued st go f h = lower_fine lo st.used (go st).ending (go st).state f.later (h st f.later f.within)
  again_fine lo (Returned v) st go f h = f
  again_fine lo (Stopped why) st go f h = f
  again_fine lo Unfinished st go f h = f

  called_fine : (lo : ℕ) (e : Ending) (st : State) (go : Option Cell → State → Outcome) → Fine lo e st → ((v : Option Cell) → FineGo lo (go v)) → FineOut lo (after_call e st go)
  called_fine lo Next st go f h = lower_fine lo st.used (go None st).ending (go None st).state f.later (h None st f.later f.within)
  called_fine lo Broke st go f h = lower_fine lo st.used (go None st).ending (go None st).state f.later (h None st f.later f.within)
  called_fine lo Continued st go f h = lower_fine lo st.used (go None st).ending (go None st).state f.later (h None st f.later f.within)
  called_fine lo (Returned v) st go f h = lower_fine lo st.used (go v st).ending (go v st).state f.later (h v st f.later f.within)
  called_fine lo (Stopped why) st go f h = f
  called_fine lo Unfinished st go f h = absurd f.finished

  one_act_fine : (lo hi : ℕ) (g : Got (Unit {0})) → lo ≤ hi → FineGot r.steps lo hi g → FineOut lo (one_act g)
  one_act_fine lo hi g le f = act_fine lo hi g (λ u st. ends Next st) le f (λ u st a b. record { finished = tt; later = omega arith; within = b })

  returns_fine : (lo hi : ℕ) (g : Got Cell) → lo ≤ hi → FineGot r.steps lo hi g → FineOut lo (returns g)
  returns_fine lo hi g le f = act_fine lo hi g (λ c st. ends (Returned (Some c)) st) le f (λ u st a b. record { finished = tt; later = omega arith; within = b })

  -- a loop, with turns enough for the steps that are left
  turns_fine : (test : State → Got Bool) (body follow : State → Outcome) (start : ℕ) → ((st : State) → st.used ≤ r.steps → FineGot r.steps st.used (suc st.used) (test st)) → FineGo start body → FineGo start follow → (n : ℕ) (st : State) → start ≤ st.used → st.used ≤ r.steps → r.steps < st.used + n → FineOut st.used (turns n test body follow st)
  turns_fine test body follow start ht hb hf zero st lo le n = absurd (omega arith)
  turns_fine test body follow start ht hb hf (suc m) st lo le n =
      act_fine st.used (suc st.used) (test st) (λ y st. next_turn y st (λ st. then_again (body st) (λ st. then_do (follow st) (turns m test body follow)))) (omega arith) (ht st le)
      (λ y s a b. turn (λ s lo le n. turns_fine test body follow start ht hb hf m s lo le n) y s a b)
    where
      turn : ((s : State) → start ≤ s.used → s.used ≤ r.steps → r.steps < s.used + m → FineOut s.used (turns m test body follow s)) → (y : Bool) (s : State) → suc st.used ≤ s.used → s.used ≤ r.steps → FineOut s.used (next_turn y s (λ st. then_again (body st) (λ st. then_do (follow st) (turns m test body follow))))
      turn rest true s a b =
          again_fine s.used (body s).ending (body s).state (λ st. then_do (follow st) (turns m test body follow)) (hb s (omega arith) b)
          (λ s2 a2 b2. after_fine s2.used (follow s2).ending (follow s2).state (turns m test body follow) (hf s2 (omega arith) b2) (λ s3 a3 b3. rest s3 (omega arith) b3 (omega arith)))
      turn rest false s a b = record { finished = tt; later = omega arith; within = b }

  next_fine : (lo : ℕ) → FineGo lo ends_next
  next_fine lo st a b = record { finished = tt; later = omega arith; within = b }

  block_fine : (lo : ℕ) (vs : List VarId) → FineGo lo (ends_block vs)
  block_fine lo vs st a b = record { finished = tt; later = omega arith; within = b }

  -- a call that may open n calls
  abbrev CallsFine : ℕ → Caller → Type 0
  CallsFine n call = (f : ℕ) (cells : List Cell) (st : State) → st.used ≤ r.steps → r.steps < st.used + n → FineOut st.used (call f cells st)

  module _ (n : ℕ) (call : Caller) (ok : CallsFine n call) where
    -- fine, where the calls that may be open are enough for the steps that are left
    abbrev FineRun : (State → Outcome) → Type 0
    FineRun go = (st : State) → r.steps ≤ st.used + n → st.used ≤ r.steps → FineOut st.used (go st)

    call_fine : (f : FunId) (args : List Arg) (go : Option Cell → State → Outcome) (st : State) → r.steps ≤ st.used + n → st.used ≤ r.steps → ((v : Option Cell) → FineGo st.used (go v)) → FineOut st.used (call_with r call f.0 args st go)
    call_fine f args go st k le h =
        act_fine st.used (suc st.used) (call_args r args st) (λ cells st. then_with (call f.0 cells st) go) (omega arith) (args_fine r args st le)
        (λ cells s a b. called_fine s.used (call f.0 cells s).ending (call f.0 cells s).state go (ok f.0 cells s b (omega arith)) (λ v t c d. h v t (omega arith) d))

    assign_outcome_fine : (l : Lval) (v : Value) → FineRun (assign_outcome r call l v)
    assign_outcome_fine l (value.Int id) st k le = one_act_fine st.used (suc st.used) (assign r l (from_int r id) st) (omega arith) (assign_fine r l (from_int r id) (int_source r id) st le)
    assign_outcome_fine l (value.Ptr q) st k le = one_act_fine st.used (suc st.used) (assign r l (from_pointer r q) st) (omega arith) (assign_fine r l (from_pointer r q) (pointer_source r q) st le)
    assign_outcome_fine l (value.Call f args) st k le =
        call_fine f args (λ v st. one_act (assign r l (from_call v) st)) st k le
        (λ v s a b. one_act_fine s.used (suc s.used) (assign r l (from_call v) s) (omega arith) (assign_fine r l (from_call v) (call_source v) s b))

    declare_outcome_fine : (v : VarId) (i : Init) → FineRun (declare_outcome r call v i)
    declare_outcome_fine v init.Nothing st k le = one_act_fine st.used st.used (declare r v init.Nothing st) (omega arith) (declare_fine r v init.Nothing st le)
    declare_outcome_fine v (init.List ns) st k le = one_act_fine st.used st.used (declare r v (init.List ns) st) (omega arith) (declare_fine r v (init.List ns) st le)
    declare_outcome_fine v (init.Value (value.Int id)) st k le = one_act_fine st.used st.used (declare r v (init.Value (value.Int id)) st) (omega arith) (declare_fine r v (init.Value (value.Int id)) st le)
    declare_outcome_fine v (init.Value (value.Ptr q)) st k le = one_act_fine st.used st.used (declare r v (init.Value (value.Ptr q)) st) (omega arith) (declare_fine r v (init.Value (value.Ptr q)) st le)
    declare_outcome_fine v (init.Value (value.Call f args)) st k le =
        act_fine st.used st.used (declare r v init.Nothing st) (λ u st. call_with r call f.0 args st (λ w st. one_act (keep r v (from_call w) st))) (omega arith) (declare_fine r v init.Nothing st le)
        (λ u s a b. call_fine f args (λ w st. one_act (keep r v (from_call w) st)) s (omega arith) b
        (λ w t c d. one_act_fine t.used t.used (keep r v (from_call w) t) (omega arith) (kept (keep r v (from_call w) t) t.used d (keep_keeps r v (from_call w) (call_source w) t.used t refl))))
      where
        kept : (g : Got (Unit {0})) (u : ℕ) → u ≤ r.steps → Keeps u g → FineGot r.steps u u g
        kept (Done x st) u d k = (omega (arith, k), omega (arith, k))
        kept (Halted x st) u d k = (omega (arith, k), omega (arith, k))

    return_outcome_fine : (v : Option Value) → FineRun (return_outcome r call v)
    return_outcome_fine None st k le = act_fine st.used (suc st.used) (step r st) (λ u st. ends (Returned None) st) (omega arith) (only_step_fine r st le) (λ u s a b. record { finished = tt; later = omega arith; within = b })
    return_outcome_fine (Some (value.Int id)) st k le = returns_fine st.used (suc st.used) (give r (from_int r id) st) (omega arith) (give_fine r (from_int r id) (int_source r id) st le)
    return_outcome_fine (Some (value.Ptr q)) st k le = returns_fine st.used (suc st.used) (give r (from_pointer r q) st) (omega arith) (give_fine r (from_pointer r q) (pointer_source r q) st le)
    return_outcome_fine (Some (value.Call f args)) st k le =
        call_fine f args (λ v st. returns (give r (from_call v) st)) st k le
        (λ v s a b. returns_fine s.used (suc s.used) (give r (from_call v) s) (omega arith) (give_fine r (from_call v) (call_source v) s b))

    if_fine : (id : SlotId) (ma mb : State → Outcome) → FineRun ma → FineRun mb → FineRun (λ st. after_act (condition r id st) (λ y st. if y then ma st else mb st))
    if_fine id ma mb ha hb st k le = act_fine st.used (suc st.used) (condition r id st) (λ y st. if y then ma st else mb st) (omega arith) (condition_fine r id st le) side
      where
        side : (y : Bool) (s : State) → suc st.used ≤ s.used → s.used ≤ r.steps → FineOut s.used (if y then ma s else mb s)
        side true s a b = ha s (omega arith) b
        side false s a b = hb s (omega arith) b

    loop_fine : (test : State → Got Bool) (body follow : State → Outcome) → ((st : State) → st.used ≤ r.steps → FineGot r.steps st.used (suc st.used) (test st)) → FineRun body → FineRun follow → FineRun (turns (suc r.steps) test body follow)
    loop_fine test body follow ht hb hf st k le =
        turns_fine test body follow st.used ht (λ s a b. hb s (omega arith) b) (λ s a b. hf s (omega arith) b) (suc r.steps) st (omega arith) le (omega arith)

    next_run : FineRun ends_next
    next_run st k le = next_fine st.used st (omega arith) le

    mutual
      exec_fine : (s : Stmt) → FineRun (execution_of r call s)
      exec_fine s.Empty st k le = next_fine st.used st (omega arith) le
      exec_fine (Block' sh row) st k le = row_fine row [] ends_block st k le (λ vs. block_fine st.used vs)
      exec_fine (s.Decl v i) st k le = declare_outcome_fine v i st k le
      exec_fine (s.Assign l v) st k le = assign_outcome_fine l v st k le
      exec_fine (s.Change l op id) st k le = one_act_fine st.used (suc st.used) (change r l op id st) (omega arith) (change_fine r l op id st le)
      exec_fine (s.Bump l up) st k le = one_act_fine st.used (suc st.used) (bump r l up st) (omega arith) (bump_fine r l up st le)
      exec_fine (s.Call f args) st k le = call_fine f args (λ v st. ends Next st) st k le (λ v. next_fine st.used)
      exec_fine (If' id sh (more_of-Stmt b end_of-Stmt) c) st k le = if_fine id (execution_of r call b) (held_execution r call c) (λ s k le. exec_fine b s k le) (λ s k le. held_fine c s k le) st k le
      exec_fine (While' id sh (more_of-Stmt b end_of-Stmt)) st k le =
          loop_fine (condition r id) (execution_of r call b) ends_next (condition_fine r id) (λ s k le. exec_fine b s k le) next_run st k le
      exec_fine (Do' sh (more_of-Stmt b end_of-Stmt) id) st k le =
          again_fine st.used (execution_of r call b st).ending (execution_of r call b st).state (turns (suc r.steps) (condition r id) (execution_of r call b) ends_next) (exec_fine b st k le)
          (λ s a le. loop_fine (condition r id) (execution_of r call b) ends_next (condition_fine r id) (λ s k le. exec_fine b s k le) next_run s (omega arith) le)
      exec_fine (For' sh row id next sh2 (more_of-Stmt b end_of-Stmt)) st k le =
          row_fine row [] (λ vs st. then_in vs (turns (suc r.steps) (condition_or_true r id) (execution_of r call b) (held_execution r call next) st) (ends_block vs)) st k le
          (λ vs s a le.
          let out = turns (suc r.steps) (condition_or_true r id) (execution_of r call b) (held_execution r call next) s in
          after_in_fine s.used vs out.ending out.state (ends_block vs)
          (loop_fine (condition_or_true r id) (execution_of r call b) (held_execution r call next) (or_true_fine r id) (λ s k le. exec_fine b s k le) (λ s k le. held_fine next s k le) s (omega arith) le) (block_fine s.used vs))
      exec_fine s.Break st k le = record { finished = tt; later = omega arith; within = le }
      exec_fine s.Continue st k le = record { finished = tt; later = omega arith; within = le }
      exec_fine (s.Return v) st k le = return_outcome_fine v st k le
      exec_fine (s.Read l) st k le = one_act_fine st.used (suc st.used) (read r l st) (omega arith) (read_fine r l st le)
      exec_fine (s.Print id) st k le = one_act_fine st.used (suc st.used) (print r id st) (omega arith) (print_fine r id st le)

      row_fine : {m : _} (row : Row_of-Stmt m) (vs : List VarId) (go : List VarId → State → Outcome) (st : State) → r.steps ≤ st.used + n → st.used ≤ r.steps → ((vs : List VarId) → FineGo st.used (go vs)) → FineOut st.used (row_execution r call row vs go st)
      row_fine end_of-Stmt vs go st k le h = h vs st (omega arith) le
      row_fine (more_of-Stmt b rest) vs go st k le h =
          after_in_fine st.used vs (execution_of r call b st).ending (execution_of r call b st).state (row_execution r call rest (declared_by b vs) go) (exec_fine b st k le)
          (λ s a le. row_fine rest (declared_by b vs) go s (omega arith) le (λ vs t c d. h vs t (omega arith) d))

      held_fine : (c : Held-Stmt-If-2) → FineRun (held_execution r call c)
      held_fine None' st k le = next_fine st.used st (omega arith) le
      held_fine (Some' sh (more_of-Stmt b end_of-Stmt)) st k le = exec_fine b st k le

    body_fine : (body : List Stmt) → FineRun (body_execution r call body)
    body_fine [] st k le = next_fine st.used st (omega arith) le
    body_fine (b ∷ rest) st k le =
        after_fine st.used (execution_of r call b st).ending (execution_of r call b st).state (body_execution r call rest) (exec_fine b st k le) (λ s a le. body_fine rest s (omega arith) le)

    enter_used : (vs : List VarId) (cells : List Cell) (st : State) → (enter vs cells st).used ≡ st.used
    enter_used [] cells st = refl
    enter_used (v ∷ vs) [] st = refl
    enter_used (v ∷ vs) (c ∷ cs) st = enter_used vs cs (with_object v (c ∷ []) st)

    call_ending_fine : (lo : ℕ) (v : Option Cell) (e : Ending) (st : State) → Fine lo e st → Fine lo (call_ending v e) st
    call_ending_fine lo v Next st f = record { finished = tt; later = f.later; within = f.within }
    call_ending_fine lo v Broke st f = record { finished = tt; later = f.later; within = f.within }
    call_ending_fine lo v Continued st f = record { finished = tt; later = f.later; within = f.within }
    call_ending_fine lo v (Returned w) st f = f
    call_ending_fine lo v (Stopped why) st f = f
    call_ending_fine lo v Unfinished st f = f

    fun_fine : (f : ℕ) (o : Option Fun) (cells : List Cell) (st : State) → r.steps ≤ st.used + n → st.used ≤ r.steps → FineOut st.used (fun_outcome r call f o cells st)
    fun_fine f None cells st k le = record { finished = tt; later = omega arith; within = le }
    fun_fine f (Some fun) cells st k le =
        let same = enter_used fun.params cells st in
        let out = body_execution r call fun.body (enter fun.params cells st) in
        let fine = body_fine fun.body (enter fun.params cells st) (omega (arith, same)) (omega (arith, same)) in
        let here : Fine st.used out.ending out.state = record { finished = fine.finished; later = omega (arith, same, fine.later); within = fine.within } in
        same_steps st.used (call_ending (value_at_end r.program f) out.ending) out.state (restored st out.state) refl (call_ending_fine st.used (value_at_end r.program f) out.ending out.state here)

  calls_fine : (n : ℕ) → CallsFine n (calls r n)
  calls_fine zero f cells st le k = absurd (omega arith)
  calls_fine (suc n) f cells st le k = fun_fine n (calls r n) (calls_fine n) f (slice_get (r.program).funs f) cells st (omega arith) le

globals_used : (p : Program) (gs : List (VarId × Init)) (st : State) → (enter_globals p gs st).used ≡ st.used
globals_used p [] st = refl
globals_used p (g ∷ gs) st = globals_used p gs (with_object g.0 (global_cells p g.0 g.1) st)

run_fine : (r : Setting) (inputs : List ℤ) → Fine r 0 (outcome_of r inputs).ending (outcome_of r inputs).state
run_fine r inputs =
    let e : (at_start r.program inputs).used ≡ 0 = globals_used r.program (r.program).globals _ in
    let out = outcome_of r inputs in
    lower_fine r 0 (at_start r.program inputs).used out.ending out.state (omega arith) (calls_fine r (suc r.steps) ((r.program).main).0 [] (at_start r.program inputs) (omega (arith, e)) (omega (arith, e)))

main_finished : (v : Option Cell) → IsFinished (ending_of_main v)
main_finished None = tt
main_finished (Some Empty) = tt
main_finished (Some (Int n)) = tt
main_finished (Some (Ptr q)) = tt

run_finished : (e : Ending) → IsFinished e → IsFinished (ending_of_run e)
run_finished Next f = tt
run_finished Broke f = tt
run_finished Continued f = tt
run_finished (Returned v) f = main_finished v
run_finished (Stopped why) f = tt
run_finished Unfinished f = f

-- no run ends `Unfinished`, whatever the values of its slots
pub finishes : (r : Setting) (inputs : List ℤ) → (seen_in r inputs).ending ≡ Unfinished → ⊥
finishes r inputs eq = subst IsFinished eq (run_finished (outcome_of r inputs).ending (run_fine r inputs).finished)

-- the same of its outcome
pub outcome-finishes : (r : Setting) (inputs : List ℤ) → (outcome_of r inputs).ending ≡ Unfinished → ⊥
outcome-finishes r inputs eq = subst IsFinished eq (run_fine r inputs).finished

-- a run uses at most the steps that it may
pub used-within : (r : Setting) (inputs : List ℤ) → (seen_in r inputs).used ≤ r.steps
used-within r inputs = (run_fine r inputs).within
