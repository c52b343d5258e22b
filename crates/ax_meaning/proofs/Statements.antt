-- The definitions on statements, one equation for each constructor that has children.
use Rattle.std.proofs.Common.{suc, if◌then◌else◌, ◌≡◌, List, [], ◌∷◌, Option, Some, None, refl, ap}
use Rattle.ax_prog.specs.declared.SlotId.{SlotId}
use Rattle.ax_prog.specs.declared.Stmt.{Stmt}
use Rattle.ax_prog.specs.declared.Stmt.TheVariants as s
use Rattle.ax_prog.specs.declared.Stmt.TheBlock.{shape-the_row-Stmt-0, hidden-the_row-Stmt-0, shape-the_row-Stmt-1, hidden-the_row-Stmt-1}
use Rattle.ax_meaning.specs.declared.State.{State}
use Rattle.ax_meaning.specs.Acts.{Setting, condition, condition_or_true}
use Rattle.ax_meaning.specs.Execution.{Outcome, Caller, execution_of, row_execution, block_execution, ends, Next, ends_block, ends_next, after_act, then_in, then_again, turns, declared_by}
use denote.Hole.Carrier

-- a statement that may be absent
abbrev pub optional_execution : Setting → Caller → Option Stmt → State → Outcome
optional_execution r call None st = ends Next st
optional_execution r call (Some a) st = execution_of r call a st

row_execution-list : (r : Setting) (call : Caller) (items : List Stmt) → row_execution r call (hidden-the_row-Stmt-0 items) ≡ block_execution r call items
unfolding shape-the_row-Stmt-1 hidden-the_row-Stmt-1 shape-the_row-Stmt-0 hidden-the_row-Stmt-0 Carrier.hidden
row_execution-list r call [] = refl
row_execution-list r call (a ∷ items) =
    ap (λ run vs go st. then_in vs (execution_of r call a st) (run (declared_by a vs) go)) (row_execution-list r call items)

pub execution_of-Block : (r : Setting) (call : Caller) (items : List Stmt) (st : State) → execution_of r call (s.Block items) st ≡ block_execution r call items [] ends_block st
unfolding shape-the_row-Stmt-1 hidden-the_row-Stmt-1 shape-the_row-Stmt-0 hidden-the_row-Stmt-0 Carrier.hidden
execution_of-Block r call items st = ap (λ run. run [] ends_block st) (row_execution-list r call items)

pub execution_of-If : (r : Setting) (call : Caller) (id : SlotId) (a : Stmt) (b : Option Stmt) (st : State) → execution_of r call (s.If id a b) st ≡ after_act (condition r id st) (λ y st. if y then execution_of r call a st else optional_execution r call b st)
unfolding shape-the_row-Stmt-1 hidden-the_row-Stmt-1 shape-the_row-Stmt-0 hidden-the_row-Stmt-0 Carrier.hidden
execution_of-If r call id a None st = refl
execution_of-If r call id a (Some b) st = refl

pub execution_of-While : (r : Setting) (call : Caller) (id : SlotId) (a : Stmt) (st : State) → execution_of r call (s.While id a) st ≡ turns (suc r.steps) (condition r id) (execution_of r call a) ends_next st
unfolding shape-the_row-Stmt-1 hidden-the_row-Stmt-1 shape-the_row-Stmt-0 hidden-the_row-Stmt-0 Carrier.hidden
execution_of-While r call id a st = refl

pub execution_of-Do : (r : Setting) (call : Caller) (a : Stmt) (id : SlotId) (st : State) → execution_of r call (s.Do a id) st ≡ then_again (execution_of r call a st) (turns (suc r.steps) (condition r id) (execution_of r call a) ends_next)
unfolding shape-the_row-Stmt-1 hidden-the_row-Stmt-1 shape-the_row-Stmt-0 hidden-the_row-Stmt-0 Carrier.hidden
execution_of-Do r call a id st = refl

pub execution_of-For : (r : Setting) (call : Caller) (items : List Stmt) (id : Option SlotId) (next : Option Stmt) (a : Stmt) (st : State) → execution_of r call (s.For items id next a) st ≡ block_execution r call items [] (λ vs st. then_in vs (turns (suc r.steps) (condition_or_true r id) (execution_of r call a) (optional_execution r call next) st) (ends_block vs)) st
unfolding shape-the_row-Stmt-1 hidden-the_row-Stmt-1 shape-the_row-Stmt-0 hidden-the_row-Stmt-0 Carrier.hidden
execution_of-For r call items id None a st = ap (λ run. run [] (λ vs st. then_in vs (turns (suc r.steps) (condition_or_true r id) (execution_of r call a) (optional_execution r call None) st) (ends_block vs)) st) (row_execution-list r call items)
execution_of-For r call items id (Some next) a st = ap (λ run. run [] (λ vs st. then_in vs (turns (suc r.steps) (condition_or_true r id) (execution_of r call a) (optional_execution r call (Some next)) st) (ends_block vs)) st) (row_execution-list r call items)

pub ruleset statements = (execution_of-Block, execution_of-If, execution_of-While, execution_of-Do, execution_of-For)
