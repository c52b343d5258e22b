-- The outcome of executing a statement (C11 6.8) and a call (6.5.2.2, 6.9.1): its ending, and the state in which it ends.
use Rattle.std.specs.Prelude.{ℕ, zero, suc, ◌==◌, pos, Bool, true, false, if◌then◌else◌, List, [], ◌∷◌, length, Option, Some, None, slice_get}
use Rattle.ax_prog.specs.declared.Lval.{Lval}
use Rattle.ax_prog.specs.declared.VarId.{VarId}
use Rattle.ax_prog.specs.declared.Fun.{Fun}
use Rattle.ax_prog.specs.declared.Arg.{Arg}
use Rattle.ax_prog.specs.declared.Value.{Value}
use Rattle.ax_prog.specs.declared.Value.TheVariants as value
use Rattle.ax_prog.specs.declared.Init.{Init}
use Rattle.ax_prog.specs.declared.Init.TheVariants as init
use Rattle.ax_prog.specs.declared.Program.{Program}
use Rattle.ax_prog.specs.declared.Stmt.{Stmt, Block', If', While', Do', For', Row_of-Stmt, end_of-Stmt, more_of-Stmt, Held-Stmt-If-2, None', Some'}
use Rattle.ax_prog.specs.declared.Stmt.TheVariants as s
use Rattle.ax_meaning.specs.declared.Why.TheVariants.{NoValue}
use Rattle.ax_meaning.specs.declared.Cell.{Cell}
use Rattle.ax_meaning.specs.declared.Cell.TheVariants.{Int}
use Rattle.ax_meaning.specs.declared.State.{State}
use Rattle.ax_meaning.specs.Store.{end_vars, leave}
use Rattle.ax_meaning.specs.Acts.{Halt, Undefined, Setting, Got, Done, Halted, step, with_object, from_int, from_pointer, from_call, assign, declare, keep, change, bump, read, print, condition, condition_or_true, call_args, give}

-- How a statement ends. `Unfinished` would say that the bounds on a loop's turns and on open calls ran out; no run meets it.
pub data Ending : Type 0 where
  Next : Ending
  Broke : Ending
  Continued : Ending
  Returned : Option Cell → Ending
  Stopped : Halt → Ending
  Unfinished : Ending

pub record Outcome : Type 0 where
  pub ending : Ending
  pub state : State

abbrev pub ends : Ending → State → Outcome
ends e st = record { ending = e; state = st }

-- goes on after an act
abbrev pub after_act : {A : Type 0} → Got A → (A → State → Outcome) → Outcome
after_act (Done a st) go = go a st
after_act (Halted why st) go = ends (Stopped why) st

-- a statement that is one act
abbrev pub one_act : Got (Unit {0}) → Outcome
one_act got = after_act got (λ u st. ends Next st)

-- goes on after a statement
abbrev pub after : Ending → State → (State → Outcome) → Outcome
after Next st go = go st
after Broke st go = ends Broke st
after Continued st go = ends Continued st
after (Returned v) st go = ends (Returned v) st
after (Stopped why) st go = ends (Stopped why) st
after Unfinished st go = ends Unfinished st

abbrev pub then_do : Outcome → (State → Outcome) → Outcome
then_do out go = after out.ending out.state go

-- ---- blocks

abbrev pub end_all : List VarId → State → State
end_all vs st = record st { store = end_vars vs st.store }

-- 6.2.4p6: goes on after a statement of a block in which these variables were declared; they end where the block is left. (A
-- `return` ends all objects of its call at once.)
abbrev pub after_in : List VarId → Ending → State → (State → Outcome) → Outcome
after_in vs Next st go = go st
after_in vs Broke st go = ends Broke (end_all vs st)
after_in vs Continued st go = ends Continued (end_all vs st)
after_in vs (Returned v) st go = ends (Returned v) st
after_in vs (Stopped why) st go = ends (Stopped why) st
after_in vs Unfinished st go = ends Unfinished st

abbrev pub then_in : List VarId → Outcome → (State → Outcome) → Outcome
then_in vs out go = after_in vs out.ending out.state go

abbrev pub ends_block : List VarId → State → Outcome
ends_block vs st = ends Next (end_all vs st)

-- the variables that a block has declared, latest first
abbrev pub declared_by : Stmt → List VarId → List VarId
declared_by (s.Decl v i) vs = v ∷ vs
declared_by a vs = vs

-- ---- loops

-- goes on after a loop's body: 6.8.6.2p2, 6.8.6.3p2
abbrev pub after_body : Ending → State → (State → Outcome) → Outcome
after_body Next st go = go st
after_body Broke st go = ends Next st
after_body Continued st go = go st
after_body (Returned v) st go = ends (Returned v) st
after_body (Stopped why) st go = ends (Stopped why) st
after_body Unfinished st go = ends Unfinished st

abbrev pub then_again : Outcome → (State → Outcome) → Outcome
then_again out go = after_body out.ending out.state go

abbrev pub next_turn : Bool → State → (State → Outcome) → Outcome
next_turn true st go = go st
next_turn false st go = ends Next st

-- 6.8.5p4: at most n turns, each of them the condition, the body and what follows the body
abbrev pub turns : ℕ → (State → Got Bool) → (State → Outcome) → (State → Outcome) → State → Outcome
turns zero test body follow st = ends Unfinished st
turns (suc n) test body follow st =
    after_act (test st) (λ b st. next_turn b st (λ st. then_again (body st) (λ st. then_do (follow st) (turns n test body follow))))

abbrev pub ends_next : State → Outcome
ends_next st = ends Next st

-- ---- calls in statements

-- what a call of the function of this number with these values of its parameters does
abbrev pub Caller : Type 0
Caller = ℕ → List Cell → State → Outcome

-- goes on with the value of a call
abbrev pub after_call : Ending → State → (Option Cell → State → Outcome) → Outcome
after_call Next st go = go None st
after_call Broke st go = go None st
after_call Continued st go = go None st
after_call (Returned v) st go = go v st
after_call (Stopped why) st go = ends (Stopped why) st
after_call Unfinished st go = ends Unfinished st

abbrev pub then_with : Outcome → (Option Cell → State → Outcome) → Outcome
then_with out go = after_call out.ending out.state go

abbrev pub call_with : Setting → Caller → ℕ → List Arg → State → (Option Cell → State → Outcome) → Outcome
call_with r call f args st go = after_act (call_args r args st) (λ cells st. then_with (call f cells st) go)

-- `lv = f(a)`: the call, and then the assignment
abbrev pub assign_outcome : Setting → Caller → Lval → Value → State → Outcome
assign_outcome r call l (value.Int id) st = one_act (assign r l (from_int r id) st)
assign_outcome r call l (value.Ptr q) st = one_act (assign r l (from_pointer r q) st)
assign_outcome r call l (value.Call f args) st = call_with r call f.0 args st (λ v st. one_act (assign r l (from_call v) st))

-- `int x = f(a)`: the declaration, the call, and then the value
abbrev pub declare_outcome : Setting → Caller → VarId → Init → State → Outcome
declare_outcome r call v init.Nothing st = one_act (declare r v init.Nothing st)
declare_outcome r call v (init.List ns) st = one_act (declare r v (init.List ns) st)
declare_outcome r call v (init.Value (value.Int id)) st = one_act (declare r v (init.Value (value.Int id)) st)
declare_outcome r call v (init.Value (value.Ptr q)) st = one_act (declare r v (init.Value (value.Ptr q)) st)
declare_outcome r call v (init.Value (value.Call f args)) st =
    after_act (declare r v init.Nothing st) (λ u st. call_with r call f.0 args st (λ w st. one_act (keep r v (from_call w) st)))

abbrev pub returns : Got Cell → Outcome
returns got = after_act got (λ c st. ends (Returned (Some c)) st)

-- `return f(a)`: the call, and then the `return`
abbrev pub return_outcome : Setting → Caller → Option Value → State → Outcome
return_outcome r call None st = after_act (step r st) (λ u st. ends (Returned None) st)
return_outcome r call (Some (value.Int id)) st = returns (give r (from_int r id) st)
return_outcome r call (Some (value.Ptr q)) st = returns (give r (from_pointer r q) st)
return_outcome r call (Some (value.Call f args)) st = call_with r call f.0 args st (λ v st. returns (give r (from_call v) st))

-- ---- statements

abbrev mutual
  pub execution_of : Setting → Caller → Stmt → State → Outcome
  -- 6.8.3p3
  execution_of r call s.Empty st = ends Next st
  -- 6.8.2
  execution_of r call (Block' sh row) st = row_execution r call row [] ends_block st
  execution_of r call (s.Decl v i) st = declare_outcome r call v i st
  execution_of r call (s.Assign l v) st = assign_outcome r call l v st
  execution_of r call (s.Change l op id) st = one_act (change r l op id st)
  execution_of r call (s.Bump l up) st = one_act (bump r l up st)
  execution_of r call (s.Call f args) st = call_with r call f.0 args st (λ v st. ends Next st)
  -- 6.8.4.1
  execution_of r call (If' id sh (more_of-Stmt a end_of-Stmt) b) st =
      after_act (condition r id st) (λ y st. if y then execution_of r call a st else held_execution r call b st)
  -- 6.8.5.1 to 6.8.5.3
  execution_of r call (While' id sh (more_of-Stmt a end_of-Stmt)) st =
      turns (suc r.steps) (condition r id) (execution_of r call a) ends_next st
  execution_of r call (Do' sh (more_of-Stmt a end_of-Stmt) id) st =
      then_again (execution_of r call a st) (turns (suc r.steps) (condition r id) (execution_of r call a) ends_next)
  execution_of r call (For' sh row id next sh2 (more_of-Stmt a end_of-Stmt)) st =
      row_execution r call row []
      (λ vs st. then_in vs (turns (suc r.steps) (condition_or_true r id) (execution_of r call a) (held_execution r call next) st) (ends_block vs)) st
  -- 6.8.6
  execution_of r call s.Break st = ends Broke st
  execution_of r call s.Continue st = ends Continued st
  execution_of r call (s.Return v) st = return_outcome r call v st
  execution_of r call (s.Read l) st = one_act (read r l st)
  execution_of r call (s.Print id) st = one_act (print r id st)

  -- the statements of a block in which these variables were declared, and what follows them
  pub row_execution : Setting → Caller → {n : _} → Row_of-Stmt n → List VarId → (List VarId → State → Outcome) → State → Outcome
  row_execution r call end_of-Stmt vs go st = go vs st
  row_execution r call (more_of-Stmt a rest) vs go st =
      then_in vs (execution_of r call a st) (row_execution r call rest (declared_by a vs) go)

  -- a statement that may be absent
  pub held_execution : Setting → Caller → Held-Stmt-If-2 → State → Outcome
  held_execution r call None' st = ends Next st
  held_execution r call (Some' sh (more_of-Stmt a end_of-Stmt)) st = execution_of r call a st

-- the statements of a block, as a list
abbrev pub block_execution : Setting → Caller → List Stmt → List VarId → (List VarId → State → Outcome) → State → Outcome
block_execution r call [] vs go st = go vs st
block_execution r call (a ∷ rest) vs go st =
    then_in vs (execution_of r call a st) (block_execution r call rest (declared_by a vs) go)

-- the statements of a function's body
abbrev pub body_execution : Setting → Caller → List Stmt → State → Outcome
body_execution r call [] st = ends Next st
body_execution r call (a ∷ rest) st = then_do (execution_of r call a st) (body_execution r call rest)

-- ---- calls

-- 6.9.1p10: the parameters' objects begin with the arguments' values
abbrev pub enter : List VarId → List Cell → State → State
enter [] cells st = st
enter (v ∷ vs) [] st = st
enter (v ∷ vs) (c ∷ cs) st = enter vs cs (with_object v (c ∷ []) st)

-- 5.1.2.2.3p1: the end of `main` is a `return 0`; another function ends without a value (6.9.1p12)
abbrev pub value_at_end : Program → ℕ → Option Cell
value_at_end p f = if f == (p.main).0 then Some (Int (pos 0)) else None

abbrev pub call_ending : Option Cell → Ending → Ending
call_ending v Next = Returned v
call_ending v Broke = Returned v
call_ending v Continued = Returned v
call_ending v (Returned w) = Returned w
call_ending v (Stopped why) = Stopped why
call_ending v Unfinished = Unfinished

-- 6.2.4p6: after a call its objects have ended, and its caller's names stand again
abbrev pub restored : State → State → State
restored before st = record st { store = leave (length (before.store).objects) (before.store).named st.store }

abbrev pub fun_outcome : Setting → Caller → ℕ → Option Fun → List Cell → State → Outcome
fun_outcome r call f None cells st = ends (Stopped (Undefined NoValue)) st
fun_outcome r call f (Some fun) cells st =
    let out = body_execution r call fun.body (enter fun.params cells st) in
    record { ending = call_ending (value_at_end r.program f) out.ending; state = restored st out.state }

-- a call in which at most n calls are open, itself among them
abbrev pub calls : Setting → ℕ → Caller
calls r zero f cells st = ends Unfinished st
calls r (suc n) f cells st = fun_outcome r (calls r n) f (slice_get (r.program).funs f) cells st
