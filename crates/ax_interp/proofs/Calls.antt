-- Calls that begin.
use Rattle.std.proofs.Common.{◌≡◌, ℕ, List, [], ◌∷◌, ◌++◌, Some, None, refl, sym, ap, ◌∙◌}
use Rattle.std.specs.Prelude.{ℤ, reverse, slice_get}
use Rattle.std.proofs.lemmas.List.{reverse-append}
use Rattle.ax_prog.specs.declared.FunId.{FunId}
use Rattle.ax_prog.specs.declared.Fun.{Fun}
use Rattle.ax_prog.specs.declared.Program.{Program}
use Rattle.ax_meaning.specs.declared.Cell.{Cell}
use Rattle.ax_meaning.specs.declared.State.{State}
use Rattle.ax_meaning.specs.Types.{or_zero}
use Rattle.ax_meaning.specs.Acts.{Setting}
use Rattle.ax_meaning.specs.Execution.{enter}
use Rattle.ax_meaning.specs.Runs.{plain_setting, at_start}
use Rattle.ax_flow.specs.declared.Frame.{Frame}
use Rattle.ax_flow.specs.Machine.{Go, start, frame_of, call_move}
use Rattle.ax_interp.specs.declared.machine.Machine.{Machine}
use Rattle.ax_interp.specs.Moves.{calls_of, here_of, with_caller}
use Rattle.ax_interp.proofs.Ops.{inputs_at_start}

pub reverse_last : {A : Type 0} (xs : List A) (x : A) → reverse (xs ++ x ∷ []) ≡ x ∷ reverse xs
reverse_last xs x = reverse-append xs (x ∷ [])

-- a function begins, and its caller waits
pub entered_as : (r : Setting) (starts : List ℕ) (f : FunId) (fun : Fun) (back : ℕ) (old : Machine) (cells : List Cell) (waiting : Machine) (st : State) (at : ℕ) →
    Some fun ≡ slice_get (r.program).funs f.0 → waiting ≡ with_caller (frame_of old.running back old.state) old → st ≡ enter fun.params cells waiting.state → at ≡ or_zero (slice_get starts f.0) →
    Go (here_of (record { place = at; running = f; callers = waiting.callers; last = None; state = st })) ≡ call_move r starts f back (calls_of old) cells old.state
entered_as r starts f fun back old cells waiting st at found waits begins starts_at =
    let frame : Frame = frame_of old.running back old.state in
    let stack : reverse waiting.callers ≡ frame ∷ reverse old.callers = ap (λ m. reverse m.callers) waits ∙ reverse_last old.callers frame in
    let same : st ≡ enter fun.params cells old.state = begins ∙ ap (λ m. enter fun.params cells m.state) waits in
    rw (← found, starts_at, stack, same) refl

-- `main` begins
pub begins_as : (p : Program) (steps : ℕ) (starts : List ℕ) (inputs : List ℤ) (fun : Fun) (st : State) (at : ℕ) (stack : List Frame) →
    Some fun ≡ slice_get p.funs (p.main).0 → st ≡ at_start p inputs → at ≡ or_zero (slice_get starts (p.main).0) → stack ≡ [] →
    Go (here_of (record { place = at; running = p.main; callers = stack; last = None; state = st })) ≡ start (plain_setting p steps) starts st.inputs
begins_as p steps starts inputs fun st at stack found begins starts_at none =
    let left : st.inputs ≡ inputs = ap (λ s. s.inputs) begins ∙ inputs_at_start p inputs in
    let same : st ≡ at_start p st.inputs = begins ∙ ap (at_start p) (sym left) in
    rw (starts_at, none, ← found)
    (ap (λ s. Go (record { place = or_zero (slice_get starts (p.main).0); calls = record { running = p.main; callers = [] }; last = None; state = s })) same)
