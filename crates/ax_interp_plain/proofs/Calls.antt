-- Turns of a loop, and calls.
use Rattle.std.proofs.Common.{◌≡◌, refl, sym, ap, subst, ◌∙◌, ℕ, zero, suc, ◌-◌, ◌<◌, List, length, Option, Some, arith}
use Rattle.std.specs.Prelude.{ℤ, [], slice_get}
use Rattle.ax_prog.specs.declared.Program.{Program}
use Rattle.ax_prog.specs.declared.SlotId.{SlotId}
use Rattle.ax_prog.specs.declared.Fun.{Fun}
use Rattle.ax_prog.specs.declared.Stmt.{Stmt}
use Rattle.ax_meaning.specs.declared.Cell.{Cell}
use Rattle.ax_meaning.specs.declared.Store.{Store}
use Rattle.ax_meaning.specs.declared.State.{State}
use Rattle.ax_meaning.specs.Store.{leave}
use Rattle.ax_meaning.specs.Acts.{Setting, condition_or_true}
use Rattle.ax_meaning.specs.Execution.{Ending, Outcome, Caller, ends, turns, execution_of, body_execution, enter, value_at_end, call_ending, restored, fun_outcome, calls}
use Rattle.ax_meaning.specs.Runs.{at_start, outcome_of, plain_setting}
use Rattle.ax_interp_plain.specs.Completions.{execution_of_optional, turn_execution}

pub turns_step : (r : Setting) (call : Caller) (id : Option SlotId) (a : Stmt) (next : Option Stmt) (n : ℕ) (st : State) → 0 < n →
    turns n (condition_or_true r id) (execution_of r call a) (execution_of_optional r call next) st ≡
    turn_execution r call id a next (turns (n - 1) (condition_or_true r id) (execution_of r call a) (execution_of_optional r call next)) st
turns_step r call id a next zero st h = absurd (omega arith)
turns_step r call id a next (suc n) st h = let e : suc n - 1 ≡ n = omega arith in rw e refl

pub calls_step : (r : Setting) (n f : ℕ) (cells : List Cell) (st : State) → 0 < n → calls r n f cells st ≡ fun_outcome r (calls r (n - 1)) f (slice_get (r.program).funs f) cells st
calls_step r zero f cells st h = absurd (omega arith)
calls_step r (suc n) f cells st h = let e : suc n - 1 ≡ n = omega arith in rw e refl

-- a call from its parameters to its end
pub call_done : (r : Setting) (n f : ℕ) (fun : Fun) (cells : List Cell) (old entered st : State) (e x : Ending) (m : Store) (objects : ℕ) (names : List (Option ℕ)) →
    0 < n → Some fun ≡ slice_get (r.program).funs f → entered ≡ enter fun.params cells old → ends e st ≡ body_execution r (calls r (n - 1)) fun.body entered →
    objects ≡ length (old.store).objects → names ≡ (old.store).named → m ≡ leave objects names st.store → x ≡ call_ending (value_at_end r.program f) e →
    ends x (record st { store = m }) ≡ calls r n f cells old
call_done r n f fun cells old entered st e x m objects names more found begins ran numbered named left ended =
    let after_body : ends e st ≡ body_execution r (calls r (n - 1)) fun.body (enter fun.params cells old) = subst (λ s. ends e st ≡ body_execution r (calls r (n - 1)) fun.body s) begins ran in
    let over : Outcome → Outcome = λ out. record { ending = call_ending (value_at_end r.program f) out.ending; state = restored old out.state } in
    rw (ended, left, numbered, named)
    (ap over after_body ∙ ap (λ o. fun_outcome r (calls r (n - 1)) f o cells old) found ∙ sym (calls_step r n f cells old more))

-- the call of `main` that a run is
pub run_outcome : (p q : Program) (steps n : ℕ) (inputs : List ℤ) (st : State) (cells : List Cell) (out : Outcome) →
    q ≡ p → n ≡ suc steps → st ≡ at_start q inputs → cells ≡ [] → out ≡ calls (plain_setting q steps) n (p.main).0 cells st →
    out ≡ outcome_of (plain_setting p steps) inputs
run_outcome p q steps n inputs st cells out same count begins none ran =
    ran ∙ ap (λ m. calls (plain_setting q steps) m (p.main).0 cells st) count
    ∙ ap (λ cs. calls (plain_setting q steps) (suc steps) (p.main).0 cs st) none
    ∙ ap (λ s. calls (plain_setting q steps) (suc steps) (p.main).0 [] s) begins
    ∙ ap (λ x. calls (plain_setting x steps) (suc steps) (p.main).0 [] (at_start x inputs)) same
