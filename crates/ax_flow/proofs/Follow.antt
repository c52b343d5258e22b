-- The run of flat code follows the program: from the place of a statement it comes to whatever follows the statement's outcome.
use Rattle.std.proofs.Common.{◌≡◌, ℕ, zero, suc, ◌+◌, Bool, true, false, if◌then◌else◌, List, [], ◌∷◌, ◌++◌, length, Option, Some, None, refl, sym, ap, ◌∙◌, subst, arith}
use Rattle.std.specs.Prelude.{ℤ, pos, slice_get}
use Rattle.ax_prog.specs.declared.SlotId.{SlotId}
use Rattle.ax_prog.specs.declared.VarId.{VarId}
use Rattle.ax_prog.specs.declared.FunId.{FunId}
use Rattle.ax_prog.specs.declared.Arg.{Arg}
use Rattle.ax_prog.specs.declared.Fun.{Fun}
use Rattle.ax_prog.specs.declared.Lval.{Lval}
use Rattle.ax_prog.specs.declared.Value.{Value}
use Rattle.ax_prog.specs.declared.Value.TheVariants as value
use Rattle.ax_prog.specs.declared.Init.{Init}
use Rattle.ax_prog.specs.declared.Init.TheVariants as init
use Rattle.ax_prog.specs.declared.Program.{Program}
use Rattle.ax_prog.specs.declared.Stmt.{Stmt, Block', If', While', Do', For', Row_of-Stmt, end_of-Stmt, more_of-Stmt, Held-Stmt-If-2, None', Some'}
use Rattle.ax_prog.specs.declared.Stmt.TheVariants as s
use Rattle.ax_meaning.specs.declared.Why.TheVariants.{NoValue}
use Rattle.ax_meaning.specs.declared.Cell.{Cell}
use Rattle.ax_meaning.specs.declared.Cell.TheVariants.{Int}
use Rattle.ax_meaning.specs.declared.Note.TheVariants.{Met}
use Rattle.ax_meaning.specs.declared.State.{State}
use Rattle.ax_meaning.specs.Types.{or_zero}
use Rattle.ax_meaning.specs.Acts.{Undefined, Setting, Got, Done, Halted, got_then, step, declare, keep, assign, change, bump, read, print, condition, always, condition_or_true, note, call_args, give, from_int, from_pointer, from_call}
use Rattle.ax_meaning.specs.Execution.{Ending, Next, Broke, Continued, Returned, Stopped, Unfinished, Outcome, ends, after_act, one_act, after, then_do, end_all, after_in, then_in, ends_block, declared_by, after_body, then_again, next_turn, turns, ends_next, Caller, after_call, then_with, call_with, assign_outcome, declare_outcome, returns, return_outcome, execution_of, row_execution, held_execution, body_execution, enter, value_at_end, call_ending, restored, fun_outcome, calls}
use Rattle.ax_meaning.specs.Runs.{at_start, outcome_of}
use Rattle.ax_meaning.proofs.Fuel.{outcome-finishes}
use Rattle.ax_flow.specs.declared.Frame.{Frame}
use Rattle.ax_flow.specs.declared.Rhs.{Rhs}
use Rattle.ax_flow.specs.declared.Rhs.TheVariants as rhs
use Rattle.ax_flow.specs.declared.Op.{Op}
use Rattle.ax_flow.specs.declared.Op.TheVariants as op
use Rattle.ax_flow.specs.Machine.{Calls, Here, Final, final, final_of, Move, Go, Stay, stays, moves, goes_to, further, given_back, returned, source, frame_of, entered, call_move, act, move, Comes, stops, goes, begins, start}
use Rattle.ax_flow.specs.Flat.{Around, within, At, Are, ends_of, jump_of, assign_code, decl_code, return_code, test_op, row_declared, Flat, FlatRow, FlatHeld, FlatElse, FlatList, FlatFun, FlatFuns, IsFlat}

pub end_all-append : (vs ws : List VarId) (st : State) → end_all (vs ++ ws) st ≡ end_all ws (end_all vs st)
end_all-append [] ws st = refl
end_all-append (v ∷ vs) ws st = end_all-append vs ws (end_all (v ∷ []) st)

abbrev here : ℕ → Calls → Option Cell → State → Here
here at stack last st = record { place = at; calls = stack; last = last; state = st }

module _ (how : Setting) (code : List Op) (starts : List ℕ) (come_to : Final) where
  abbrev R : Move → Type 0
  R m = Comes how code starts come_to m

  -- what goes on after a statement's outcome, where it ends at place q, leads to what the run comes to
  abbrev Follows : Around → ℕ → Calls → Ending → State → Type 0
  Follows a q stack Next st = (last : Option Cell) → R (Go (here q stack last st))
  Follows a q stack Broke st = (last : Option Cell) → R (Go (here a.broke stack last (end_all a.opened st)))
  Follows a q stack Continued st = (last : Option Cell) → R (Go (here a.continued stack last (end_all a.opened st)))
  Follows a q stack (Returned v) st = R (returned stack.callers v st)
  Follows a q stack (Stopped why) st = R (stays (Stopped why) st)
  Follows a q stack Unfinished st = ⊥

  abbrev Leads : Around → ℕ → Calls → Outcome → Type 0
  Leads a q stack out = Follows a q stack out.ending out.state

  -- one op
  one : (o : Op) (h : Here) → At code h.place o → R (act how starts (Some o) h) → R (Go h)
  one o h e r = goes h (subst (λ x. R (act how starts x h)) (sym e) r)

  moved_to : (at q : ℕ) (stack : Calls) (last : Option Cell) (st : State) → at ≡ q → R (Go (here q stack last st)) → R (Go (here at stack last st))
  moved_to at q stack last st e r = subst (λ n. R (Go (here n stack last st))) (sym e) r

  got : {A : Type 0} (a : Around) (q : ℕ) (stack : Calls) (g : Got A) (f : A → State → Outcome) (m : A → State → Move) → ((x : A) (st : State) → Leads a q stack (f x st) → R (m x st)) → Leads a q stack (after_act g f) → R (moves g m)
  got a q stack (Done x st) f m h fo = h x st fo
  got a q stack (Halted why st) f m h fo = fo

  simple : (a : Around) (at q : ℕ) (stack : Calls) (last : Option Cell) (st : State) (g : Got (Unit {0})) → at + 1 ≡ q → Leads a q stack (one_act g) → R (further (here at stack last st) g)
  simple a at q stack last st g e fo =
      got a q stack g (λ u st. ends Next st) (λ u st. goes_to (at + 1) (here at stack last st) st) (λ u st fo. moved_to (at + 1) q stack last st e (fo last)) fo

  -- ---- the ops that end variables, and jumps

  ends_run : (vs : List VarId) (at q : ℕ) (stack : Calls) (last : Option Cell) (st : State) → Are code at (ends_of vs) q → R (Go (here q stack last (end_all vs st))) → R (Go (here at stack last st))
  ends_run [] at q stack last st has r = moved_to at q stack last st has r
  ends_run (v ∷ vs) at q stack last st has r =
      one (op.End v) (here at stack last st) has.0 (ends_run vs (at + 1) q stack last (end_all (v ∷ []) st) has.1 r)

  jump_runs : (vs : List VarId) (t at q : ℕ) (stack : Calls) (last : Option Cell) (st : State) → Are code at (jump_of vs t) q → R (Go (here t stack last (end_all vs st))) → R (Go (here at stack last st))
  jump_runs [] t at q stack last st has r = one (op.Jump t) (here at stack last st) has.0 r
  jump_runs (v ∷ vs) t at q stack last st has r =
      one (op.End v) (here at stack last st) has.0 (jump_runs vs t (at + 1) q stack last (end_all (v ∷ []) st) has.1 r)

  -- ---- what follows an outcome

  -- another end
  arrive : (a : Around) (p q : ℕ) (stack : Calls) (e : Ending) (st : State) → ((last : Option Cell) (st : State) → R (Go (here q stack last st)) → R (Go (here p stack last st))) → Follows a q stack e st → Follows a p stack e st
  arrive a p q stack Next st h fo = λ last. h last st (fo last)
  arrive a p q stack Broke st h fo = fo
  arrive a p q stack Continued st h fo = fo
  arrive a p q stack (Returned v) st h fo = fo
  arrive a p q stack (Stopped why) st h fo = fo
  arrive a p q stack Unfinished st h fo = fo

  seq : (a : Around) (p q : ℕ) (stack : Calls) (e : Ending) (st : State) (go : State → Outcome) → ((last : Option Cell) (st : State) → Leads a q stack (go st) → R (Go (here p stack last st))) → Leads a q stack (after e st go) → Follows a p stack e st
  seq a p q stack Next st go h fo = λ last. h last st fo
  seq a p q stack Broke st go h fo = fo
  seq a p q stack Continued st go h fo = fo
  seq a p q stack (Returned v) st go h fo = fo
  seq a p q stack (Stopped why) st go h fo = fo
  seq a p q stack Unfinished st go h fo = fo

  in_row : (vs : List VarId) (a : Around) (p q : ℕ) (stack : Calls) (e : Ending) (st : State) (go : State → Outcome) → ((last : Option Cell) (st : State) → Leads a q stack (go st) → R (Go (here p stack last st))) → Leads a q stack (after_in vs e st go) → Follows (within vs a) p stack e st
  in_row vs a p q stack Next st go h fo = λ last. h last st fo
  in_row vs a p q stack Broke st go h fo = λ last. subst (λ st. R (Go (here a.broke stack last st))) (sym (end_all-append vs a.opened st)) (fo last)
  in_row vs a p q stack Continued st go h fo = λ last. subst (λ st. R (Go (here a.continued stack last st))) (sym (end_all-append vs a.opened st)) (fo last)
  in_row vs a p q stack (Returned v) st go h fo = fo
  in_row vs a p q stack (Stopped why) st go h fo = fo
  in_row vs a p q stack Unfinished st go h fo = fo

  -- ---- calls

  -- what goes on after a call's outcome, where its caller goes on at this place
  abbrev Backs : ℕ → Calls → Ending → State → Type 0
  Backs back stack Next st = R (Go (here back stack None st))
  Backs back stack Broke st = R (Go (here back stack None st))
  Backs back stack Continued st = R (Go (here back stack None st))
  Backs back stack (Returned v) st = R (Go (here back stack v st))
  Backs back stack (Stopped why) st = R (stays (Stopped why) st)
  Backs back stack Unfinished st = ⊥

  -- the machine follows each call
  abbrev CallsRun : Caller → Type 0
  CallsRun call =
      (f : FunId) (cells : List Cell) (st : State) (back : ℕ) (stack : Calls) →
      Backs back stack (call f.0 cells st).ending (call f.0 cells st).state →
      R (call_move how starts f back stack cells st)

  call_back : (a : Around) (q back : ℕ) (stack : Calls) (e : Ending) (st : State) (go : Option Cell → State → Outcome) → ((v : Option Cell) (st : State) → Leads a q stack (go v st) → R (Go (here back stack v st))) → Leads a q stack (after_call e st go) → Backs back stack e st
  call_back a q back stack Next st go h fo = h None st fo
  call_back a q back stack Broke st go h fo = h None st fo
  call_back a q back stack Continued st go h fo = h None st fo
  call_back a q back stack (Returned v) st go h fo = h v st fo
  call_back a q back stack (Stopped why) st go h fo = fo
  call_back a q back stack Unfinished st go h fo = fo

  module _ (call : Caller) (ok : CallsRun call) where
    call_runs : (f : FunId) (args : List Arg) (go : Option Cell → State → Outcome) (a : Around) (at q : ℕ) (stack : Calls) (last : Option Cell) (st : State) → At code at (op.Call f args) → ((v : Option Cell) (st : State) → Leads a q stack (go v st) → R (Go (here (at + 1) stack v st))) → Leads a q stack (call_with how call f.0 args st go) → R (Go (here at stack last st))
    call_runs f args go a at q stack last st has h fo =
        one (op.Call f args) (here at stack last st) has
        (got a q stack (call_args how args st) (λ cells st. then_with (call f.0 cells st) go) (call_move how starts f (at + 1) stack)
        (λ cells st fo. ok f cells st (at + 1) stack (call_back a q (at + 1) stack (call f.0 cells st).ending (call f.0 cells st).state go h fo)) fo)

    assign_runs : (l : Lval) (v : Value) (a : Around) (at q : ℕ) (stack : Calls) (last : Option Cell) (st : State) → Are code at (assign_code l v) q → Leads a q stack (assign_outcome how call l v st) → R (Go (here at stack last st))
    assign_runs l (value.Int id) a at q stack last st has fo =
        one (op.Assign l (rhs.Int id)) (here at stack last st) has.0 (simple a at q stack last st (assign how l (from_int how id) st) has.1 fo)
    assign_runs l (value.Ptr r) a at q stack last st has fo =
        one (op.Assign l (rhs.Ptr r)) (here at stack last st) has.0 (simple a at q stack last st (assign how l (from_pointer how r) st) has.1 fo)
    assign_runs l (value.Call f args) a at q stack last st has fo =
        call_runs f args (λ v st. one_act (assign how l (from_call v) st)) a at q stack last st has.0
        (λ v st fo. one (op.Assign l rhs.Last) (here (at + 1) stack v st) (has.1).0 (simple a (at + 1) q stack v st (assign how l (from_call v) st) (has.1).1 fo)) fo

    decl_runs : (x : VarId) (i : Init) (a : Around) (at q : ℕ) (stack : Calls) (last : Option Cell) (st : State) → Are code at (decl_code x i) q → Leads a q stack (declare_outcome how call x i st) → R (Go (here at stack last st))
    decl_runs x init.Nothing a at q stack last st has fo =
        one (op.Decl x init.Nothing) (here at stack last st) has.0 (simple a at q stack last st (declare how x init.Nothing st) has.1 fo)
    decl_runs x (init.List ns) a at q stack last st has fo =
        one (op.Decl x (init.List ns)) (here at stack last st) has.0 (simple a at q stack last st (declare how x (init.List ns) st) has.1 fo)
    decl_runs x (init.Value (value.Int id)) a at q stack last st has fo =
        one (op.Decl x (init.Value (value.Int id))) (here at stack last st) has.0 (simple a at q stack last st (declare how x (init.Value (value.Int id)) st) has.1 fo)
    decl_runs x (init.Value (value.Ptr r)) a at q stack last st has fo =
        one (op.Decl x (init.Value (value.Ptr r))) (here at stack last st) has.0 (simple a at q stack last st (declare how x (init.Value (value.Ptr r)) st) has.1 fo)
    decl_runs x (init.Value (value.Call f args)) a at q stack last st has fo =
        one (op.Decl x init.Nothing) (here at stack last st) has.0
        (got a q stack (declare how x init.Nothing st) (λ u st. call_with how call f.0 args st (λ w st. one_act (keep how x (from_call w) st))) (λ u st. goes_to (at + 1) (here at stack last st) st)
        (λ u st fo. call_runs f args (λ w st. one_act (keep how x (from_call w) st)) a (at + 1) q stack last st (has.1).0
        (λ v st fo. one (op.Keep x) (here (at + 1 + 1) stack v st) ((has.1).1).0 (simple a (at + 1 + 1) q stack v st (keep how x (from_call v) st) ((has.1).1).1 fo)) fo) fo)

    gives_runs : (g : Got Cell) (a : Around) (q : ℕ) (stack : Calls) → Leads a q stack (returns g) → R (moves g (λ c st. returned stack.callers (Some c) st))
    gives_runs g a q stack fo = got a q stack g (λ c st. ends (Returned (Some c)) st) (λ c st. returned stack.callers (Some c) st) (λ c st fo. fo) fo

    return_runs : (v : Option Value) (a : Around) (at q : ℕ) (stack : Calls) (last : Option Cell) (st : State) → Are code at (return_code v) q → Leads a q stack (return_outcome how call v st) → R (Go (here at stack last st))
    return_runs None a at q stack last st has fo =
        one (op.Return None) (here at stack last st) has.0 (got a q stack (step how st) (λ u st. ends (Returned None) st) (λ u st. returned stack.callers None st) (λ u st fo. fo) fo)
    return_runs (Some (value.Int id)) a at q stack last st has fo =
        one (op.Return (Some (rhs.Int id))) (here at stack last st) has.0 (gives_runs (give how (from_int how id) st) a q stack fo)
    return_runs (Some (value.Ptr r)) a at q stack last st has fo =
        one (op.Return (Some (rhs.Ptr r))) (here at stack last st) has.0 (gives_runs (give how (from_pointer how r) st) a q stack fo)
    return_runs (Some (value.Call f args)) a at q stack last st has fo =
        call_runs f args (λ v st. returns (give how (from_call v) st)) a at q stack last st has.0
        (λ v st fo. one (op.Return (Some rhs.Last)) (here (at + 1) stack v st) (has.1).0 (gives_runs (give how (from_call v) st) a q stack fo)) fo

  -- ---- loops

  module _ (a : Around) (stack : Calls) (t end cont close : ℕ) (test : State → Got Bool) (body follow : State → Outcome) where
    abbrev chosen : Bool → ℕ
    chosen y = if y then t + 1 else close

    -- the places of a loop: the test, the body's end, where `continue` goes, and the end
    record Loop : Type 0 where
      tests : (last : Option Cell) (st : State) → R (moves (test st) (λ yes st. Go (here (chosen yes) stack last st))) → R (Go (here t stack last st))
      runs_body : (last : Option Cell) (st : State) → Leads (record { broke = close; continued = cont; opened = [] }) end stack (body st) → R (Go (here (t + 1) stack last st))
      behind_body : (last : Option Cell) (st : State) → Leads a t stack (follow st) → R (Go (here end stack last st))
      behind_continue : (last : Option Cell) (st : State) → Leads a t stack (follow st) → R (Go (here cont stack last st))

    around : Around
    around = record { broke = close; continued = cont; opened = [] }

    -- after the body
    in_turn : Loop → (e : Ending) (st : State) (rest : State → Outcome) → ((last : Option Cell) (st : State) → Leads a close stack (rest st) → R (Go (here t stack last st))) → Leads a close stack (after_body e st (λ st. then_do (follow st) rest)) → Follows (record { broke = close; continued = cont; opened = [] }) end stack e st
    in_turn l Next st rest h fo = λ last. l.behind_body last st (seq a t close stack (follow st).ending (follow st).state rest h fo)
    in_turn l Broke st rest h fo = fo
    in_turn l Continued st rest h fo = λ last. l.behind_continue last st (seq a t close stack (follow st).ending (follow st).state rest h fo)
    in_turn l (Returned v) st rest h fo = fo
    in_turn l (Stopped why) st rest h fo = fo
    in_turn l Unfinished st rest h fo = fo

    one_turn : Loop → (rest : State → Outcome) → ((last : Option Cell) (st : State) → Leads a close stack (rest st) → R (Go (here t stack last st))) → (last : Option Cell) (yes : Bool) (st : State) → Leads a close stack (next_turn yes st (λ st. then_again (body st) (λ st. then_do (follow st) rest))) → R (Go (here (chosen yes) stack last st))
    one_turn l rest h last true st fo = l.runs_body last st (in_turn l (body st).ending (body st).state rest h fo)
    one_turn l rest h last false st fo = fo last

    turns_run : Loop → (n : ℕ) (last : Option Cell) (st : State) → Leads a close stack (turns n test body follow st) → R (Go (here t stack last st))
    turns_run l zero last st fo = absurd fo
    turns_run l (suc n) last st fo =
        l.tests last st
        (got a close stack (test st) (λ yes st. next_turn yes st (λ st. then_again (body st) (λ st. then_do (follow st) (turns n test body follow)))) (λ yes st. Go (here (chosen yes) stack last st)) (λ yes st fo. one_turn l (turns n test body follow) (λ last st fo. turns_run l n last st fo) last yes st fo) fo)

  -- ---- statements

  always_true : (g : Got (Unit {0})) (note : State → State) (t close : ℕ) (stack : Calls) (last : Option Cell) → R (moves (got_then g (λ u st. Done true (note st))) (λ y st. Go (here (if y then t + 1 else close) stack last st))) → R (moves (got_then g (λ u st. Done true (note st))) (λ y st. Go (here (t + 1) stack last st)))
  always_true (Done u st) note t close stack last r = r
  always_true (Halted why st) note t close stack last r = r

  -- the condition of a `for`
  for_test : (id : Option SlotId) (t close : ℕ) (stack : Calls) (last : Option Cell) (st : State) → At code t (test_op id close) → R (moves (condition_or_true how id st) (λ y st. Go (here (if y then t + 1 else close) stack last st))) → R (Go (here t stack last st))
  for_test None t close stack last st has r =
      one op.Always (here t stack last st) has (always_true (step how st) (note how.notes_truth (Met true)) t close stack last r)
  for_test (Some id) t close stack last st has r = one (op.Test id close) (here t stack last st) has r

  -- after the first turn of a `do`
  do_ends : (a : Around) (end q : ℕ) (stack : Calls) (e : Ending) (st : State) (rest : State → Outcome) → ((last : Option Cell) (st : State) → Leads a q stack (rest st) → R (Go (here end stack last st))) → Leads a q stack (after_body e st rest) → Follows (record { broke = q; continued = end; opened = [] }) end stack e st
  do_ends a end q stack Next st rest h fo = λ last. h last st fo
  do_ends a end q stack Broke st rest h fo = fo
  do_ends a end q stack Continued st rest h fo = λ last. h last st fo
  do_ends a end q stack (Returned v) st rest h fo = fo
  do_ends a end q stack (Stopped why) st rest h fo = fo
  do_ends a end q stack Unfinished st rest h fo = fo

  -- the first part of an `if` goes on past the second
  first_ends : (c : Held-Stmt-If-2) (a : Around) (end other q : ℕ) (stack : Calls) → FlatElse code c a end other q → (e : Ending) (st : State) → Follows a q stack e st → Follows a end stack e st
  first_ends None' a end other q stack has e st fo = arrive a end q stack e st (λ last st r. moved_to end q stack last st has.0 r) fo
  first_ends (Some' sh (more_of-Stmt c end_of-Stmt)) a end other q stack has e st fo =
      arrive a end q stack e st (λ last st r. one (op.Jump q) (here end stack last st) (has.0).0 r) fo

  if_runs : (id : SlotId) (a : Around) (at other q : ℕ) (stack : Calls) (last : Option Cell) (st : State) (ma mb : State → Outcome) → At code at (op.Test id other) → ((st : State) → Leads a q stack (ma st) → R (Go (here (at + 1) stack last st))) → ((st : State) → Leads a q stack (mb st) → R (Go (here other stack last st))) → Leads a q stack (after_act (condition how id st) (λ y st. if y then ma st else mb st)) → R (Go (here at stack last st))
  if_runs id a at other q stack last st ma mb has ha hb fo =
      one (op.Test id other) (here at stack last st) has (got a q stack (condition how id st) (λ y st. if y then ma st else mb st) (λ y st. Go (here (if y then at + 1 else other) stack last st)) side fo)
    where
      side : (y : Bool) (st : State) → Leads a q stack (if y then ma st else mb st) → R (Go (here (if y then at + 1 else other) stack last st))
      side true st fo = ha st fo
      side false st fo = hb st fo

  module _ (call : Caller) (ok : CallsRun call) where
    mutual
      runs : (s : Stmt) (a : Around) (at q : ℕ) (stack : Calls) (last : Option Cell) (st : State) → Flat code s a at q → Leads a q stack (execution_of how call s st) → R (Go (here at stack last st))
      runs s.Empty a at q stack last st has fo = moved_to at q stack last st has (fo last)
      runs (Block' sh row) a at q stack last st has fo =
          row_runs row [] a at has.0 stack last st has.1 (ends_block) q
          (λ last st fo. ends_run (row_declared row []) has.0 q stack last st has.2 (fo last)) fo
      runs (s.Decl v i) a at q stack last st has fo = decl_runs call ok v i a at q stack last st has fo
      runs (s.Assign l v) a at q stack last st has fo = assign_runs call ok l v a at q stack last st has fo
      runs (s.Change l o id) a at q stack last st has fo =
          one (op.Change l o id) (here at stack last st) has.0 (simple a at q stack last st (change how l o id st) has.1 fo)
      runs (s.Bump l up) a at q stack last st has fo =
          one (op.Bump l up) (here at stack last st) has.0 (simple a at q stack last st (bump how l up st) has.1 fo)
      runs (s.Call f args) a at q stack last st has fo =
          call_runs call ok f args (λ v st. ends Next st) a at q stack last st has.0 (λ v st fo. moved_to (at + 1) q stack v st has.1 (fo v)) fo
      runs (If' id sh (more_of-Stmt b end_of-Stmt) c) a at q stack last st has fo =
          if_runs id a at has.0 q stack last st (execution_of how call b) (held_execution how call c) has.2
          (λ st fo. runs b a (at + 1) has.1 stack last st has.3 (first_ends c a has.1 has.0 q stack has.4 (execution_of how call b st).ending (execution_of how call b st).state fo))
          (λ st fo. else_runs c a has.1 has.0 q stack last st has.4 fo) fo
      runs (While' id sh (more_of-Stmt b end_of-Stmt)) a at q stack last st has fo =
          turns_run a stack at has.0 at q (condition how id) (execution_of how call b) ends_next
          (record {
            tests = λ last st r. one (op.Test id q) (here at stack last st) has.1 r;
            runs_body = λ last st fo. runs b (record { broke = q; continued = at; opened = [] }) (at + 1) has.0 stack last st has.2 fo;
            behind_body = λ last st fo. one (op.Jump at) (here has.0 stack last st) (has.3).0 (fo last);
            behind_continue = λ last st fo. fo last;
          }) (suc how.steps) last st fo
      runs (Do' sh (more_of-Stmt b end_of-Stmt) id) a at q stack last st has fo =
          let around : Around = record { broke = q; continued = has.0; opened = [] } in
          runs b around at has.0 stack last st has.1
          (do_ends a has.0 q stack (execution_of how call b st).ending (execution_of how call b st).state (turns (suc how.steps) (condition how id) (execution_of how call b) ends_next)
          (λ last st fo. turns_run a stack has.0 has.0 has.0 q (condition how id) (execution_of how call b) ends_next
          (record {
            tests = λ last st r. one (op.Test id q) (here has.0 stack last st) (has.2).0 r;
            runs_body = λ last st fo. one (op.Jump at) (here (has.0 + 1) stack last st) ((has.2).1).0 (runs b around at has.0 stack last st has.1 fo);
            behind_body = λ last st fo. fo last;
            behind_continue = λ last st fo. fo last;
          }) (suc how.steps) last st fo) fo)
      runs (For' sh row id next sh2 (more_of-Stmt b end_of-Stmt)) a at q stack last st has fo =
          let vs = row_declared row [] in
          let test = has.0 in let end = has.1 in let final = has.2 in let close = has.3 in
          row_runs row [] a at test stack last st has.4
          (λ vs st. then_in vs (turns (suc how.steps) (condition_or_true how id) (execution_of how call b) (held_execution how call next) st) (ends_block vs)) q
          (λ last st fo. turns_run (within vs a) stack test end end close (condition_or_true how id) (execution_of how call b) (held_execution how call next)
          (record {
            tests = λ last st r. for_test id test close stack last st has.5 r;
            runs_body = λ last st fo. runs b (record { broke = close; continued = end; opened = [] }) (test + 1) end stack last st has.6 fo;
            behind_body = λ last st fo. held_runs next (within vs a) end final stack last st has.7 (arrive (within vs a) final test stack (held_execution how call next st).ending (held_execution how call next st).state (λ last st r. one (op.Jump test) (here final stack last st) (has.8).0 r) fo);
            behind_continue = λ last st fo. held_runs next (within vs a) end final stack last st has.7 (arrive (within vs a) final test stack (held_execution how call next st).ending (held_execution how call next st).state (λ last st r. one (op.Jump test) (here final stack last st) (has.8).0 r) fo);
          }) (suc how.steps) last st
          (in_row vs a close q stack (turns (suc how.steps) (condition_or_true how id) (execution_of how call b) (held_execution how call next) st).ending (turns (suc how.steps) (condition_or_true how id) (execution_of how call b) (held_execution how call next) st).state (ends_block vs)
          (λ last st fo. ends_run vs close q stack last st has.9 (fo last)) fo)) fo
      runs s.Break a at q stack last st has fo = jump_runs a.opened a.broke at q stack last st has (fo last)
      runs s.Continue a at q stack last st has fo = jump_runs a.opened a.continued at q stack last st has (fo last)
      runs (s.Return v) a at q stack last st has fo = return_runs call ok v a at q stack last st has fo
      runs (s.Read l) a at q stack last st has fo =
          one (op.Read l) (here at stack last st) has.0 (simple a at q stack last st (read how l st) has.1 fo)
      runs (s.Print id) a at q stack last st has fo =
          one (op.Print id) (here at stack last st) has.0 (simple a at q stack last st (print how id st) has.1 fo)

      row_runs : {n : _} (row : Row_of-Stmt n) (vs : List VarId) (a : Around) (at q : ℕ) (stack : Calls) (last : Option Cell) (st : State) → FlatRow code row vs a at q → (go : List VarId → State → Outcome) (z : ℕ) → ((last : Option Cell) (st : State) → Leads a z stack (go (row_declared row vs) st) → R (Go (here q stack last st))) → Leads a z stack (row_execution how call row vs go st) → R (Go (here at stack last st))
      row_runs end_of-Stmt vs a at q stack last st has go z h fo = moved_to at q stack last st has (h last st fo)
      row_runs (more_of-Stmt b rest) vs a at q stack last st has go z h fo =
          runs b (within vs a) at has.0 stack last st has.1
          (in_row vs a has.0 z stack (execution_of how call b st).ending (execution_of how call b st).state (row_execution how call rest (declared_by b vs) go)
          (λ last st fo. row_runs rest (declared_by b vs) a has.0 q stack last st has.2 go z h fo) fo)

      held_runs : (c : Held-Stmt-If-2) (a : Around) (at q : ℕ) (stack : Calls) (last : Option Cell) (st : State) → FlatHeld code c a at q → Leads a q stack (held_execution how call c st) → R (Go (here at stack last st))
      held_runs None' a at q stack last st has fo = moved_to at q stack last st has (fo last)
      held_runs (Some' sh (more_of-Stmt b end_of-Stmt)) a at q stack last st has fo = runs b a at q stack last st has fo

      else_runs : (c : Held-Stmt-If-2) (a : Around) (end other q : ℕ) (stack : Calls) (last : Option Cell) (st : State) → FlatElse code c a end other q → Leads a q stack (held_execution how call c st) → R (Go (here other stack last st))
      else_runs None' a end other q stack last st has fo = moved_to other q stack last st has.1 (fo last)
      else_runs (Some' sh (more_of-Stmt b end_of-Stmt)) a end other q stack last st has fo = runs b a other q stack last st has.1 fo

    list_runs : (body : List Stmt) (a : Around) (at q : ℕ) (stack : Calls) (last : Option Cell) (st : State) → FlatList code body a at q → Leads a q stack (body_execution how call body st) → R (Go (here at stack last st))
    list_runs [] a at q stack last st has fo = moved_to at q stack last st has (fo last)
    list_runs (b ∷ rest) a at q stack last st has fo =
        runs b a at has.0 stack last st has.1
        (seq a has.0 q stack (execution_of how call b st).ending (execution_of how call b st).state (body_execution how call rest) (λ last st fo. list_runs rest a has.0 q stack last st has.2 fo) fo)

  -- ---- calls, by induction on the calls that may be open

  abbrev FunAt : Option Fun → ℕ → Type 0
  FunAt None at = Unit {0}
  FunAt (Some f) at = (end : ℕ) × FlatFun code f at end

  fun_at : (funs : List Fun) (at_starts : List ℕ) (at q f : ℕ) → FlatFuns code funs at_starts at q → FunAt (slice_get funs f) (or_zero (slice_get at_starts f))
  fun_at [] at_starts at q f has = tt
  fun_at (fn ∷ funs) [] at q f has = absurd has
  fun_at (fn ∷ funs) (s ∷ at_starts) at q zero has = (has.0, subst (λ n. FlatFun code fn n has.0) (sym has.1) has.2)
  fun_at (fn ∷ funs) (s ∷ at_starts) at q (suc f) has = fun_at funs at_starts has.0 q f has.3

  abbrev outside : ℕ → Around
  outside end = record { broke = end; continued = end; opened = [] }

  -- the body of a function ends, and with it the call
  fun_ends : (end back : ℕ) (stack : Calls) (f : FunId) (before : State) (e : Ending) (st : State) → At code end op.Fall → Backs back stack (call_ending (value_at_end how.program f.0) e) (restored before st) → Follows (outside end) end (record { running = f; callers = frame_of stack.running back before ∷ stack.callers }) e st
  fun_ends end back stack f before Next st has fo = λ last. one op.Fall (here end (record { running = f; callers = frame_of stack.running back before ∷ stack.callers }) last st) has fo
  fun_ends end back stack f before Broke st has fo = λ last. one op.Fall (here end (record { running = f; callers = frame_of stack.running back before ∷ stack.callers }) last st) has fo
  fun_ends end back stack f before Continued st has fo = λ last. one op.Fall (here end (record { running = f; callers = frame_of stack.running back before ∷ stack.callers }) last st) has fo
  fun_ends end back stack f before (Returned v) st has fo = fo
  fun_ends end back stack f before (Stopped why) st has fo = fo
  fun_ends end back stack f before Unfinished st has fo = fo

  entered_runs : (call : Caller) → CallsRun call → (o : Option Fun) (f : FunId) (at : ℕ) → FunAt o at → (cells : List Cell) (st : State) (back : ℕ) (stack : Calls) → Backs back stack (fun_outcome how call f.0 o cells st).ending (fun_outcome how call f.0 o cells st).state → R (entered o f at back stack cells st)
  entered_runs call ok None f at has cells st back stack fo = fo
  entered_runs call ok (Some fun) f at has cells st back stack fo =
      let inside = enter fun.params cells st in
      let out = body_execution how call fun.body inside in
      let end = (has.1).0 in
      list_runs call ok fun.body (outside end) at end (record { running = f; callers = frame_of stack.running back st ∷ stack.callers }) None inside (has.1).1
      (fun_ends end back stack f st out.ending out.state ((has.1).2).0 fo)

  calls_run : IsFlat how.program code starts → (n : ℕ) → CallsRun (calls how n)
  calls_run flat zero f cells st back stack fo = absurd fo
  calls_run flat (suc n) f cells st back stack fo =
      entered_runs (calls how n) (calls_run flat n) (slice_get (how.program).funs f.0) f (or_zero (slice_get starts f.0)) (fun_at (how.program).funs starts 0 (length code) f.0 flat) cells st back stack fo

  -- ---- the run

  shows : (e : Ending) (st : State) → final e st ≡ come_to → R (stays e st)
  shows e st eq = subst (λ s. R (Stay s)) (sym eq) stops

  main_ends : (end : ℕ) (f : FunId) (before : State) (e : Ending) (st : State) → (call_ending (value_at_end how.program f.0) e ≡ Unfinished → ⊥) → At code end op.Fall → final (call_ending (value_at_end how.program f.0) e) (restored before st) ≡ come_to → Follows (outside end) end (record { running = f; callers = [] }) e st
  main_ends end f before Next st ne has eq = λ last. one op.Fall (here end (record { running = f; callers = [] }) last st) has (shows (Returned (value_at_end how.program f.0)) st eq)
  main_ends end f before Broke st ne has eq = λ last. one op.Fall (here end (record { running = f; callers = [] }) last st) has (shows (Returned (value_at_end how.program f.0)) st eq)
  main_ends end f before Continued st ne has eq = λ last. one op.Fall (here end (record { running = f; callers = [] }) last st) has (shows (Returned (value_at_end how.program f.0)) st eq)
  main_ends end f before (Returned v) st ne has eq = shows (Returned v) st eq
  main_ends end f before (Stopped why) st ne has eq = shows (Stopped why) st eq
  main_ends end f before Unfinished st ne has eq = absurd (ne refl)

  enter_none : (vs : List VarId) (st : State) → enter vs [] st ≡ st
  enter_none [] st = refl
  enter_none (v ∷ vs) st = refl

  main_runs : (call : Caller) → CallsRun call → (o : Option Fun) (f : FunId) (at : ℕ) → FunAt o at → (st : State) → ((fun_outcome how call f.0 o [] st).ending ≡ Unfinished → ⊥) → final_of (fun_outcome how call f.0 o [] st) ≡ come_to → R (begins o f at st)
  main_runs call ok None f at has st ne eq = shows (Stopped (Undefined NoValue)) st eq
  main_runs call ok (Some fun) f at has st ne eq =
      let inside = enter fun.params [] st in
      let out = body_execution how call fun.body inside in
      let end = (has.1).0 in
      subst (λ s. R (Go (here at (record { running = f; callers = [] }) None s))) (enter_none fun.params st)
      (list_runs call ok fun.body (outside end) at end (record { running = f; callers = [] }) None inside (has.1).1
      (main_ends end f st out.ending out.state ne ((has.1).2).0 eq))

-- the run of flat code comes to what the run of its program comes to
pub flat_runs : (how : Setting) (code : List Op) (starts : List ℕ) (inputs : List ℤ) → IsFlat how.program code starts → Comes how code starts (final_of (outcome_of how inputs)) (start how starts inputs)
flat_runs how code starts inputs flat =
    let main = (how.program).main in
    let come_to = final_of (outcome_of how inputs) in
    main_runs how code starts come_to (calls how how.steps) (calls_run how code starts come_to flat how.steps) (slice_get (how.program).funs main.0) main (or_zero (slice_get starts main.0)) (fun_at how code starts come_to (how.program).funs starts 0 (length code) main.0 flat) (at_start how.program inputs) (outcome-finishes how inputs) refl

module _ (how : Setting) (code : List Op) (starts : List ℕ) where
  came : (a s : Final) → Comes how code starts a (Stay s) → a ≡ s
  came a s stops = refl

  came_on : (a : Final) (h : Here) → Comes how code starts a (Go h) → Comes how code starts a (move how code starts h)
  came_on a h (goes _ x) = x

  -- code comes to one thing only
  pub comes_to_one : (a b : Final) (m : Move) → Comes how code starts a m → Comes how code starts b m → a ≡ b
  comes_to_one a b _ stops y = sym (came b a y)
  comes_to_one a b _ (goes h x) y = comes_to_one a b (move how code starts h) x (came_on b h y)
