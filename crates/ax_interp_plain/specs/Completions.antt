-- How a statement or a call ended, as the definitions have it.
use Rattle.std.specs.Prelude.{suc, List, [], ◌∷◌, Option, Some, None}
use Rattle.ax_prog.specs.declared.Stmt.{Stmt}
use Rattle.ax_prog.specs.declared.VarId.{VarId}
use Rattle.ax_meaning.specs.declared.Cell.{Cell}
use Rattle.ax_meaning.specs.declared.State.{State}
use Rattle.ax_prog.specs.declared.SlotId.{SlotId}
use Rattle.ax_meaning.specs.Acts.{Setting, condition_or_true, assign, keep, give, from_call}
use Rattle.ax_meaning.specs.Execution.{Ending, Next, Broke, Continued, Returned, Stopped, Unfinished, Outcome, Caller, ends, one_act, returns, after_act, next_turn, then_again, then_do, then_in, ends_block, turns, execution_of, block_execution, declared_by}
use Rattle.ax_meaning.specs.Runs.{plain_setting}
use Rattle.ax_interp_acts.specs.Gives.{halt_of}
use Rattle.ax_interp_plain.specs.declared.completion.Completion.{Completion}
use Rattle.ax_interp_plain.specs.declared.completion.Completion.TheVariants as by
use Rattle.ax_interp_plain.specs.declared.completion.Purpose.{Purpose}
use Rattle.ax_interp_plain.specs.declared.completion.Purpose.TheVariants as for
use Rattle.ax_interp_plain.specs.declared.completion.Plain.{Plain}

abbrev pub ending_of : Completion → Ending
ending_of by.Next = Next
ending_of by.Broke = Broke
ending_of by.Continued = Continued
ending_of (by.Returned v) = Returned v
ending_of (by.Stopped stop) = Stopped (halt_of stop)
ending_of by.Unfinished = Unfinished

-- what a call's value is for
abbrev pub purpose_of : Setting → Purpose → Option Cell → State → Outcome
purpose_of r for.Nothing v st = ends Next st
purpose_of r (for.Assign l) v st = one_act (assign r l.now (from_call v) st)
purpose_of r (for.Keep id) v st = one_act (keep r id (from_call v) st)
purpose_of r for.Give v st = returns (give r (from_call v) st)

-- goes on after a turn of a loop: with another turn, or not at all
abbrev pub with_turn : Option Completion → State → (State → Outcome) → Outcome
with_turn None st go = go st
with_turn (Some end) st go = ends (ending_of end) st

abbrev pub setting_of : Plain → Setting
setting_of plain = plain_setting plain.layout.program.now plain.steps

-- a statement that may be absent
abbrev pub execution_of_optional : Setting → Caller → Option Stmt → State → Outcome
execution_of_optional r call None st = ends Next st
execution_of_optional r call (Some a) st = execution_of r call a st

-- a block's statements, whose variables live on
abbrev pub stay : List VarId → State → Outcome
stay vs st = ends Next st

-- the variables that these statements declare, latest first, before those declared already
abbrev pub declared_after : List Stmt → List VarId → List VarId
declared_after [] vs = vs
declared_after (a ∷ rest) vs = declared_after rest (declared_by a vs)

-- what follows the first clause of a `for`
abbrev pub for_rest : Setting → Caller → Option SlotId → Option Stmt → Stmt → List VarId → State → Outcome
for_rest r call id next a vs st =
    then_in vs (turns (suc r.steps) (condition_or_true r id) (execution_of r call a) (execution_of_optional r call next) st) (ends_block vs)

-- a `for` with this first clause, condition, last part and body
abbrev pub for_execution : Setting → Caller → List Stmt → Option SlotId → Option Stmt → Stmt → State → Outcome
for_execution r call first id next a st = block_execution r call first [] (for_rest r call id next a) st

-- a turn of a loop, and the rest of the loop
abbrev pub turn_execution : Setting → Caller → Option SlotId → Stmt → Option Stmt → (State → Outcome) → State → Outcome
turn_execution r call id a next rest st =
    after_act (condition_or_true r id st)
    (λ b st. next_turn b st (λ st. then_again (execution_of r call a st) (λ st. then_do (execution_of_optional r call next st) rest)))
