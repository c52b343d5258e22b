-- How many ops a run makes, and what it comes to.
use Rattle.std.proofs.Common.{◌≡◌, ℕ, zero, suc, ◌<◌, Bool, true, false, IsTrue, List, [], ◌∷◌, refl, sym, ap, ◌∙◌, subst, arith}
use Rattle.std.specs.Prelude.{ℤ}
use Rattle.ax_prog.specs.declared.VarId.{VarId}
use Rattle.ax_prog.specs.declared.Init.{Init}
use Rattle.ax_prog.specs.declared.Program.{Program}
use Rattle.ax_meaning.specs.declared.State.{State}
use Rattle.ax_meaning.specs.Acts.{Setting}
use Rattle.ax_meaning.specs.Execution.{Ending, Unfinished}
use Rattle.ax_meaning.specs.Runs.{plain_setting, outcome_of, enter_globals, at_start, ending_of_run}
use Rattle.ax_meaning.proofs.Fuel.{finishes}
use Rattle.ax_flow.specs.declared.Op.{Op}
use Rattle.ax_flow.specs.Drafts.{flat_code, flat_starts}
use Rattle.ax_flow.specs.Machine.{Here, Final, final, final_of, Move, Go, Stay, move, Comes, stops, goes, start}
use Rattle.ax_flow.proofs.Follow.{flat_runs, comes_to_one}
use Rattle.ax_flow.proofs.Drawn.{has_flat_code}
use Rattle.ax_flow.specs.declared.flow.Flow.{Flow}

module _ (r : Setting) (code : List Op) (starts : List ℕ) where
  -- the run is over within so many ops
  unfoldable pub stops_within : ℕ → Move → Bool
  stops_within n (Stay f) = true
  stops_within zero (Go h) = false
  stops_within (suc n) (Go h) = stops_within n (move r code starts h)

  -- the ops that are left, at most so many
  unfoldable pub ops_left : ℕ → Move → ℕ
  ops_left n (Stay f) = 0
  ops_left zero (Go h) = 0
  ops_left (suc n) (Go h) = suc (ops_left n (move r code starts h))

  -- ---- one op less

  stops_more : (n : ℕ) (m : Move) → IsTrue (stops_within n m) → IsTrue (stops_within (suc n) m)
  unfolding stops_within
  stops_more n (Stay f) e = e
  stops_more zero (Go h) e = absurd (cc)
  stops_more (suc n) (Go h) e = stops_more n (move r code starts h) e

  left_same : (n : ℕ) (m : Move) → IsTrue (stops_within n m) → ops_left (suc n) m ≡ ops_left n m
  unfolding stops_within ops_left
  left_same n (Stay f) e = refl
  left_same zero (Go h) e = absurd (cc)
  left_same (suc n) (Go h) e = ap suc (left_same n (move r code starts h) e)

  pub stops_on : (n : ℕ) (h : Here) → IsTrue (stops_within n (Go h)) → IsTrue (stops_within n (move r code starts h))
  unfolding stops_within
  stops_on zero h e = absurd (cc)
  stops_on (suc n) h e = stops_more n (move r code starts h) e

  pub left_falls : (n : ℕ) (h : Here) → IsTrue (stops_within n (Go h)) → ops_left n (move r code starts h) < ops_left n (Go h)
  unfolding stops_within ops_left
  left_falls zero h e = absurd (cc)
  left_falls (suc n) h e = let same = left_same n (move r code starts h) e in omega (arith, same)

  pub stops_here : (h : Here) (f : Final) → Stay f ≡ move r code starts h → Comes r code starts f (Go h)
  stops_here h f e = goes h (subst (Comes r code starts f) e stops)

  pub goes_on : (h next : Here) (f : Final) → Go next ≡ move r code starts h → Comes r code starts f (Go next) → Comes r code starts f (Go h)
  goes_on h next f e c = goes h (subst (Comes r code starts f) e c)

  -- ---- the ops of a run

  ops_in : (f : Final) (m : Move) → Comes r code starts f m → ℕ
  ops_in f _ stops = 0
  ops_in f _ (goes h c) = suc (ops_in f (move r code starts h) c)

  within_ops : (f : Final) (m : Move) (c : Comes r code starts f m) → IsTrue (stops_within (ops_in f m c) m)
  unfolding stops_within ops_in
  within_ops f _ stops = refl
  within_ops f _ (goes h c) = within_ops f (move r code starts h) c

code_runs : (p : Program) (inputs : List ℤ) (steps : ℕ) → Comes (plain_setting p steps) (flat_code p) (flat_starts p) (final_of (outcome_of (plain_setting p steps) inputs)) (start (plain_setting p steps) (flat_starts p) inputs)
code_runs p inputs steps = flat_runs (plain_setting p steps) (flat_code p) (flat_starts p) inputs (has_flat_code p)

-- the ops of a program's run
pub ops_of_run : Program → List ℤ → ℕ → ℕ
ops_of_run p inputs steps =
    let r = plain_setting p steps in
    ops_in r (flat_code p) (flat_starts p) (final_of (outcome_of r inputs)) (start r (flat_starts p) inputs) (code_runs p inputs steps)

module _ (p : Program) (code : List Op) (starts : List ℕ) (inputs : List ℤ) (steps : ℕ) (is_code : code ≡ flat_code p) (is_starts : starts ≡ flat_starts p) where
  abbrev r : Setting
  r = plain_setting p steps

  pub run_stops : IsTrue (stops_within r code starts (ops_of_run p inputs steps) (start r starts inputs))
  unfolding ops_of_run
  run_stops =
      let all = within_ops r (flat_code p) (flat_starts p) (final_of (outcome_of r inputs)) (start r (flat_starts p) inputs) (code_runs p inputs steps) in
      let n = ops_of_run p inputs steps in
      subst (λ s. IsTrue (stops_within r code s n (start r s inputs))) (sym is_starts)
      (subst (λ c. IsTrue (stops_within r c (flat_starts p) n (start r (flat_starts p) inputs))) (sym is_code) all)

  pub run_comes : Comes r code starts (final_of (outcome_of r inputs)) (start r starts inputs)
  run_comes =
      subst (λ s. Comes r code s (final_of (outcome_of r inputs)) (start r s inputs)) (sym is_starts)
      (subst (λ c. Comes r c (flat_starts p) (final_of (outcome_of r inputs)) (start r (flat_starts p) inputs)) (sym is_code) (code_runs p inputs steps))

  pub comes_as_run : (f : Final) → Comes r code starts f (start r starts inputs) → f ≡ final_of (outcome_of r inputs)
  comes_as_run f c = comes_to_one r code starts f (final_of (outcome_of r inputs)) (start r starts inputs) c run_comes

-- a run that comes to what the program's comes to isn't unfinished
pub is_finished : (r : Setting) (inputs : List ℤ) (e : Ending) (st : State) → final e st ≡ final_of (outcome_of r inputs) → e ≡ Unfinished → ⊥
is_finished r inputs e st same un = finishes r inputs (sym (ap (λ f. f.shown.ending) same) ∙ ap ending_of_run un)

-- the inputs are all left where `main` begins
globals_leave_inputs : (p : Program) (globals : List (VarId × Init)) (st : State) → (enter_globals p globals st).inputs ≡ st.inputs
globals_leave_inputs p [] st = refl
globals_leave_inputs p (g ∷ rest) st = globals_leave_inputs p rest _

pub inputs_at_start : (p : Program) (inputs : List ℤ) → (at_start p inputs).inputs ≡ inputs
inputs_at_start p inputs = globals_leave_inputs p p.globals _

-- ---- a program with its flat code

module _ (flow : Flow) (p : Program) (same : p ≡ flow.program) where
  pub code_of_program : flow.code ≡ flat_code p
  code_of_program = flow.code_is ∙ ap flat_code (sym same)

  pub starts_of_program : flow.starts ≡ flat_starts p
  starts_of_program = flow.starts_are ∙ ap flat_starts (sym same)
