use Rattle.std.proofs.Common.{◌≡◌, ◌≤◌, ◌+◌, ◌-◌, refl, sym, ap, subst, ◌∙◌, [], suc, take, drop, List, arith}
use Rattle.std.proofs.lemmas.List.{at_drop_all}
use Rattle.ax_prog.specs.declared.Stmt.{Stmt}
use Rattle.ax_prog.specs.declared.VarId.{VarId}
use Rattle.ax_meaning.specs.declared.State.{State}
use Rattle.ax_meaning.specs.Acts.{Setting, condition, condition_or_true}
use Rattle.ax_meaning.specs.Execution.{Outcome, Caller, then_do, then_in, then_again, then_with, turns, ends_next, ends_block, execution_of, block_execution, body_execution, calls}
use Rattle.ax_meaning.proofs.Statements.{execution_of-Block, execution_of-If, execution_of-While, execution_of-Do, execution_of-For}
use Rattle.ax_interp_plain.specs.Completions.{ending_of, setting_of, execution_of_optional, declared_after, for_rest, purpose_of, stay}
use Rattle.ax_interp_plain.specs.Weights.{weight, weights, optional_weight}
use Rattle.ax_interp_plain.proofs.Weights.{weight-Block, weight-If, weight-While, weight-Do, weight-For, weight_least, weight_within, body_within_widest, room_falls}
use Rattle.ax_interp_plain.proofs.BlockEnds.{block-then, block_turns, body_turns}
use Rattle.ax_interp_plain.proofs.Calls.{turns_step, calls_step, call_done}
use Rattle.ax_interp_plain.proofs.execution.+execution.Goals as goal

-- ---- statements

pub statement-block-requires : goal.statement-block-requires
statement-block-requires t c =
    let w : weight c.args.tree.now ≡ weights c.in-Block.items + 4 = rw c.in-Block.is (weight-Block c.in-Block.items) in
    let same : weights c.as_slice-items.result.now ≡ weights c.in-Block.items = ap weights c.as_slice-items.ensures in
    (omega arith, omega arith)

pub statement-declared-requires : goal.statement-declared-requires
statement-declared-requires t c = let w = weight_least c.args.tree.now in omega arith

pub statement-assigned-requires : goal.statement-assigned-requires
statement-assigned-requires t c = let w = weight_least c.args.tree.now in omega arith

pub statement-called-requires : goal.statement-called-requires
statement-called-requires t c = let w = weight_least c.args.tree.now in omega arith

pub statement-given-requires : goal.statement-given-requires
statement-given-requires t c = let w = weight_least c.args.tree.now in omega arith

pub statement-statement-requires : goal.statement-statement-requires
statement-statement-requires t c =
    let w : weight c.args.tree.now ≡ weight c.in-If.a + optional_weight c.in-If.b + 4 = rw c.in-If.is (weight-If c.in-If.id c.in-If.a c.in-If.b) in
    let same : weight c.get.result.now ≡ weight c.in-If.a = ap weight c.get.ensures in
    (omega arith, omega arith)

pub statement-statement-requires-in-Some : goal.statement-statement-requires-in-Some
statement-statement-requires-in-Some t c =
    let w : weight c.args.tree.now ≡ weight c.in-If.a + optional_weight c.in-If.b + 4 = rw c.in-If.is (weight-If c.in-If.id c.in-If.a c.in-If.b) in
    let same : optional_weight c.in-If.b ≡ weight c.get-in-Some.result.now = rw (c.in-Some.is, c.get-in-Some.ensures) refl in
    (omega arith, omega arith)

pub statement-repeat-requires : goal.statement-repeat-requires
statement-repeat-requires t c =
    let w : weight c.args.tree.now ≡ weight c.in-While.a + 4 = rw c.in-While.is (weight-While c.in-While.id c.in-While.a) in
    let same : weight c.get-in-While.result.now ≡ weight c.in-While.a = ap weight c.get-in-While.ensures in
    (omega arith, omega arith)

pub statement-statement-requires-in-Do : goal.statement-statement-requires-in-Do
statement-statement-requires-in-Do t c =
    let w : weight c.args.tree.now ≡ weight c.in-Do.a + 4 = rw c.in-Do.is (weight-Do c.in-Do.a c.in-Do.id) in
    let same : weight c.get-in-Do.result.now ≡ weight c.in-Do.a = ap weight c.get-in-Do.ensures in
    (omega arith, omega arith)

pub statement-repeat-requires-in-None-leaves_loop : goal.statement-repeat-requires-in-None-leaves_loop
statement-repeat-requires-in-None-leaves_loop t c =
    let w : weight c.args.tree.now ≡ weight c.in-Do.a + 4 = rw c.in-Do.is (weight-Do c.in-Do.a c.in-Do.id) in
    let same : weight c.get-in-None-leaves_loop.result.now ≡ weight c.in-Do.a = ap weight c.get-in-None-leaves_loop.ensures in
    (omega arith, omega arith)

pub statement-for_loop-requires : goal.statement-for_loop-requires
statement-for_loop-requires t c =
    let w : weight c.args.tree.now ≡ weights c.in-For.first + optional_weight c.in-For.next + weight c.in-For.a + 4 =
    rw c.in-For.is (weight-For c.in-For.first c.in-For.id c.in-For.next c.in-For.a) in
    let same_first : weights c.as_slice.result.now ≡ weights c.in-For.first = ap weights c.as_slice.ensures in
    let same : weight c.get-in-For.result.now ≡ weight c.in-For.a = ap weight c.get-in-For.ensures in
    (omega arith, omega arith)

pub statement-returns-in-Empty : goal.statement-returns-in-Empty
statement-returns-in-Empty t c = rw c.in-Empty.is refl

pub statement-returns-in_ok-end-in-Block : goal.statement-returns-in_ok-end-in-Block
statement-returns-in_ok-end-in-Block t c =
    let r : Setting = setting_of c.args.plain.now in
    let call : Caller = calls r c.args.calls in
    let items : List Stmt = c.as_slice-items.result.now in
    rw (c.in-Block.is, execution_of-Block, ← c.as_slice-items.ensures)
    (c.finish_block.ensures ∙ ap (λ out. then_do out (ends_block (declared_after items []))) c.in_ok-end-in-Block.ensures ∙ sym (block-then r call items [] ends_block c.args.state.now))

pub statement-returns-in-Decl : goal.statement-returns-in-Decl
statement-returns-in-Decl t c = rw c.in-Decl.is c.declared.ensures

pub statement-returns-in-Assign : goal.statement-returns-in-Assign
statement-returns-in-Assign t c = rw c.in-Assign.is c.assigned.ensures

pub statement-returns-in-Change : goal.statement-returns-in-Change
statement-returns-in-Change t c = rw c.in-Change.is c.changes.ensures

pub statement-returns-in-Bump : goal.statement-returns-in-Bump
statement-returns-in-Bump t c = rw c.in-Bump.is c.bumps.ensures

pub statement-returns-in-Call : goal.statement-returns-in-Call
statement-returns-in-Call t c = rw c.in-Call.is c.called.ensures

pub statement-returns-in-Err : goal.statement-returns-in-Err
statement-returns-in-Err t c = rw (c.in-If.is, execution_of-If, ← c.in-Err.ensures) refl

pub statement-returns-in-Ok-true : goal.statement-returns-in-Ok-true
statement-returns-in-Ok-true t c =
    let h = rw c.in-Ok-true.field-0-test at c.in-Ok-true.ensures in
    rw (c.in-If.is, execution_of-If, ← h, ← c.get.ensures) c.statement.ensures

pub statement-returns-in-None : goal.statement-returns-in-None
statement-returns-in-None t c =
    let h = rw c.in-Ok-false.field-0-test at c.in-Ok-false.ensures in
    rw (c.in-If.is, execution_of-If, ← h, c.in-None.is) refl

pub statement-returns-in-Some : goal.statement-returns-in-Some
statement-returns-in-Some t c =
    let h = rw c.in-Ok-false.field-0-test at c.in-Ok-false.ensures in
    rw (c.in-If.is, execution_of-If, ← h, c.in-Some.is, ← c.get-in-Some.ensures) c.statement-in-Some.ensures

pub statement-returns-in-While : goal.statement-returns-in-While
statement-returns-in-While t c = rw (c.in-While.is, execution_of-While, ← c.get-in-While.ensures) c.repeat.ensures

pub statement-returns-in-None-leaves_loop : goal.statement-returns-in-None-leaves_loop
statement-returns-in-None-leaves_loop t c =
    let r : Setting = setting_of c.args.plain.now in
    let call : Caller = calls r c.args.calls in
    let again : State → Outcome = turns (suc r.steps) (condition r c.in-Do.id) (execution_of r call c.in-Do.a) ends_next in
    let h = rw c.get-in-Do.ensures at c.in_ok-end-in-Do.ensures in
    rw (c.in-Do.is, execution_of-Do, ← h, ← c.in-None-leaves_loop.ensures c.statement-in-Do.new.state again)
    (rw c.get-in-None-leaves_loop.ensures at c.repeat-in-None-leaves_loop.ensures)

pub statement-returns-in-Some-leaves_loop : goal.statement-returns-in-Some-leaves_loop
statement-returns-in-Some-leaves_loop t c =
    let r : Setting = setting_of c.args.plain.now in
    let call : Caller = calls r c.args.calls in
    let again : State → Outcome = turns (suc r.steps) (condition r c.in-Do.id) (execution_of r call c.in-Do.a) ends_next in
    let h = rw c.get-in-Do.ensures at c.in_ok-end-in-Do.ensures in
    rw (c.in-Do.is, execution_of-Do, ← h) (c.in-Some-leaves_loop.ensures c.statement-in-Do.new.state again)

pub statement-returns-in-For : goal.statement-returns-in-For
statement-returns-in-For t c = rw (c.in-For.is, execution_of-For, ← c.as_slice.ensures, ← c.get-in-For.ensures) c.for_loop.ensures

pub statement-returns-in-Break : goal.statement-returns-in-Break
statement-returns-in-Break t c = rw c.in-Break.is refl

pub statement-returns-in-Continue : goal.statement-returns-in-Continue
statement-returns-in-Continue t c = rw c.in-Continue.is refl

pub statement-returns-in-Return : goal.statement-returns-in-Return
statement-returns-in-Return t c = rw c.in-Return.is c.given.ensures

pub statement-returns-in-Read : goal.statement-returns-in-Read
statement-returns-in-Read t c = rw c.in-Read.is c.reads.ensures

pub statement-returns-in-Print : goal.statement-returns-in-Print
statement-returns-in-Print t c = rw c.in-Print.is c.prints.ensures

-- ---- blocks

pub block-statement-requires : goal.block-statement-requires
block-statement-requires t c =
    let item = c.index-items-at.result in
    let w : weight item ≤ weights c.args.items.now =
    subst (λ x. weight x ≤ weights c.args.items.now) (sym c.index-items-at.is) (weight_within c.args.items.now c.loop-at.at item (omega arith)) in
    (omega arith, omega arith)

pub block-returns-in-Some : goal.block-returns-in-Some
block-returns-in-Some t c =
    let r : Setting = setting_of c.args.plain.now in
    let call : Caller = calls r c.args.calls in
    let items : List Stmt = c.args.items.now in
    let at = c.loop-at.at in
    let rest : State → Outcome = block_execution r call (drop (at + 1) items) (declared_after (take (at + 1) items) []) stay in
    c.in-Some.ensures c.leave_block.new.state rest
    ∙ sym
    (block_turns r call items at c.index-items-at.result c.loop-at.state (ending_of c.in_ok-end.end) c.statement.new.state c.leave_block.new.state
    (omega arith) c.index-items-at.is c.in_ok-end.ensures c.leave_block.ensures)
    ∙ c.loop-at.invariant

pub block-loop-at-preserved : goal.block-loop-at-preserved
block-loop-at-preserved t c =
    let r : Setting = setting_of c.args.plain.now in
    let call : Caller = calls r c.args.calls in
    let items : List Stmt = c.args.items.now in
    let at = c.loop-at.at in
    let rest : State → Outcome = block_execution r call (drop (at + 1) items) (declared_after (take (at + 1) items) []) stay in
    c.in-None.ensures c.leave_block.new.state rest
    ∙ sym
    (block_turns r call items at c.index-items-at.result c.loop-at.state (ending_of c.in_ok-end.end) c.statement.new.state c.leave_block.new.state
    (omega arith) c.index-items-at.is c.in_ok-end.ensures c.leave_block.ensures)
    ∙ c.loop-at.invariant

pub block-returns : goal.block-returns
block-returns t c =
    let r : Setting = setting_of c.args.plain.now in
    let call : Caller = calls r c.args.calls in
    let items : List Stmt = c.args.items.now in
    let at = c.loop-at.at in
    sym (at_drop_all (λ xs. block_execution r call xs (declared_after (take at items) []) stay c.loop-at.state) items at (omega arith)) ∙ c.loop-at.invariant

-- ---- `for`

pub for_loop-block-requires : goal.for_loop-block-requires
for_loop-block-requires t c = (omega arith, omega arith)

pub for_loop-repeat-requires : goal.for_loop-repeat-requires
for_loop-repeat-requires t c = (omega arith, omega arith)

pub for_loop-returns-in-Some : goal.for_loop-returns-in-Some
for_loop-returns-in-Some t c =
    let r : Setting = setting_of c.args.plain.now in
    let call : Caller = calls r c.args.calls in
    let first : List Stmt = c.args.first.now in
    let rest : List VarId → State → Outcome = for_rest r call c.args.test c.args.next.now c.args.body.now in
    c.in-Some.ensures c.block.new.state (rest (declared_after first []))
    ∙ ap (λ out. then_do out (rest (declared_after first []))) c.in_ok-end.ensures
    ∙ sym (block-then r call first [] rest c.args.state.now)

pub for_loop-returns-in_ok-end-in-None : goal.for_loop-returns-in_ok-end-in-None
for_loop-returns-in_ok-end-in-None t c =
    let r : Setting = setting_of c.args.plain.now in
    let call : Caller = calls r c.args.calls in
    let first : List Stmt = c.args.first.now in
    let vs : List VarId = declared_after first [] in
    let rest : List VarId → State → Outcome = for_rest r call c.args.test c.args.next.now c.args.body.now in
    c.finish_block.ensures ∙ sym (c.leave_block.ensures (ends_block vs))
    ∙ ap (λ out. then_in vs out (ends_block vs)) c.in_ok-end-in-None.ensures
    ∙ c.in-None.ensures c.block.new.state (rest vs)
    ∙ ap (λ out. then_do out (rest vs)) c.in_ok-end.ensures
    ∙ sym (block-then r call first [] rest c.args.state.now)

-- ---- loops

pub repeat-turn-requires : goal.repeat-turn-requires
repeat-turn-requires t c = (omega arith, omega arith)

pub repeat-returns-in-Some : goal.repeat-returns-in-Some
repeat-returns-in-Some t c =
    let r : Setting = setting_of c.args.plain.now in
    let call : Caller = calls r c.args.calls in
    let rest : State → Outcome = turns (c.turns.left - 1) (condition_or_true r c.args.test) (execution_of r call c.args.body.now) (execution_of_optional r call c.args.next.now) in
    let h = rw c.in-Some.is at (c.in_ok-end.ensures rest) in
    h ∙ sym (turns_step r call c.args.test c.args.body.now c.args.next.now c.turns.left c.turns.state (omega arith)) ∙ c.turns.invariant.still

pub repeat-turns-preserved : goal.repeat-turns-preserved
repeat-turns-preserved t c =
    let r : Setting = setting_of c.args.plain.now in
    let call : Caller = calls r c.args.calls in
    let rest : State → Outcome = turns (c.turns.left - 1) (condition_or_true r c.args.test) (execution_of r call c.args.body.now) (execution_of_optional r call c.args.next.now) in
    let h = rw c.in-None.is at (c.in_ok-end.ensures rest) in
    record {
      within = omega arith;
      still = h ∙ sym (turns_step r call c.args.test c.args.body.now c.args.next.now c.turns.left c.turns.state (omega arith)) ∙ c.turns.invariant.still;
    }

pub repeat-returns : goal.repeat-returns
repeat-returns t c = let none : c.turns.left ≡ 0 = omega arith in rw none at c.turns.invariant.still

pub turn-statement-requires : goal.turn-statement-requires
turn-statement-requires t c = (omega arith, omega arith)

pub turn-statement-requires-in-Some-next : goal.turn-statement-requires-in-Some-next
turn-statement-requires-in-Some-next t c =
    let same : optional_weight c.args.next.now ≡ weight c.get.result.now = rw (c.in-Some-next.is, c.get.ensures) refl in
    (omega arith, omega arith)

pub turn-returns-in-Err : goal.turn-returns-in-Err
turn-returns-in-Err t c = λ rest. rw (← c.in-Err.ensures) refl

pub turn-returns-in-Ok-false : goal.turn-returns-in-Ok-false
turn-returns-in-Ok-false t c = let h = rw c.in-Ok-false.field-0-test at c.in-Ok-false.ensures in λ rest. rw (← h) refl

pub turn-returns-in-Some : goal.turn-returns-in-Some
turn-returns-in-Some t c =
    let r : Setting = setting_of c.args.plain.now in
    let call : Caller = calls r c.args.calls in
    let h = rw c.in-Ok-true.field-0-test at c.in-Ok-true.ensures in
    λ rest.
    let follow : State → Outcome = λ st. then_do (execution_of_optional r call c.args.next.now st) rest in
    c.in-Some.ensures c.statement.new.state follow ∙ ap (λ out. then_again out follow) c.in_ok-end-in-Ok-true.ensures ∙ rw (← h) refl

pub turn-returns-in-None-next : goal.turn-returns-in-None-next
turn-returns-in-None-next t c =
    let r : Setting = setting_of c.args.plain.now in
    let call : Caller = calls r c.args.calls in
    let h = rw c.in-Ok-true.field-0-test at c.in-Ok-true.ensures in
    λ rest.
    let follow : State → Outcome = λ st. then_do (execution_of_optional r call c.args.next.now st) rest in
    let absent : rest c.statement.new.state ≡ follow c.statement.new.state = rw c.in-None-next.is refl in
    absent ∙ c.in-None.ensures c.statement.new.state follow ∙ ap (λ out. then_again out follow) c.in_ok-end-in-Ok-true.ensures ∙ rw (← h) refl

pub turn-returns-in_ok-end-in-Some-next : goal.turn-returns-in_ok-end-in-Some-next
turn-returns-in_ok-end-in-Some-next t c =
    let r : Setting = setting_of c.args.plain.now in
    let call : Caller = calls r c.args.calls in
    let h = rw c.in-Ok-true.field-0-test at c.in-Ok-true.ensures in
    let follows = rw c.get.ensures at c.in_ok-end-in-Some-next.ensures in
    λ rest.
    let follow : State → Outcome = λ st. then_do (execution_of_optional r call c.args.next.now st) rest in
    let present : then_do (execution_of r call c.in-Some-next.next c.statement.new.state) rest ≡ follow c.statement.new.state = rw c.in-Some-next.is refl in
    c.leaves.ensures c.statement-in-Some-next.new.state rest ∙ ap (λ out. then_do out rest) follows ∙ present
    ∙ c.in-None.ensures c.statement.new.state follow ∙ ap (λ out. then_again out follow) c.in_ok-end-in-Ok-true.ensures ∙ rw (← h) refl

-- ---- statements with calls

pub assigned-called-requires : goal.assigned-called-requires
assigned-called-requires t c = omega arith

pub assigned-returns-in-Int : goal.assigned-returns-in-Int
assigned-returns-in-Int t c = rw c.in-Int.is c.assigns.ensures

pub assigned-returns-in-Ptr : goal.assigned-returns-in-Ptr
assigned-returns-in-Ptr t c = rw c.in-Ptr.is c.assigns-in-Ptr.ensures

pub assigned-returns-in-Call : goal.assigned-returns-in-Call
assigned-returns-in-Call t c = rw c.in-Call.is c.called.ensures

pub declared-called-requires : goal.declared-called-requires
declared-called-requires t c = omega arith

pub declared-returns-in-Nothing : goal.declared-returns-in-Nothing
declared-returns-in-Nothing t c = rw c.in-Nothing.is (rw c.in-Nothing.is at c.declares.ensures)

pub declared-returns-in-List : goal.declared-returns-in-List
declared-returns-in-List t c = rw c.in-List.is (rw c.in-List.is at c.declares-in-List.ensures)

pub declared-returns-in-Int : goal.declared-returns-in-Int
declared-returns-in-Int t c = rw (c.in-Value.is, c.in-Int.is) (rw (c.in-Value.is, c.in-Int.is) at c.declares-in-Int.ensures)

pub declared-returns-in-Ptr : goal.declared-returns-in-Ptr
declared-returns-in-Ptr t c = rw (c.in-Value.is, c.in-Ptr.is) (rw (c.in-Value.is, c.in-Ptr.is) at c.declares-in-Ptr.ensures)

pub declared-returns-in-Err : goal.declared-returns-in-Err
declared-returns-in-Err t c =
    let h = rw c.in-Err.is at c.in_ok-begun-in-Call.ensures in
    rw (c.in-Value.is, c.in-Call.is, ← h) refl

pub declared-returns-in-Ok : goal.declared-returns-in-Ok
declared-returns-in-Ok t c =
    let h = rw c.in-Ok.is at c.in_ok-begun-in-Call.ensures in
    rw (c.in-Value.is, c.in-Call.is, ← h) c.called.ensures

pub given-called-requires : goal.given-called-requires
given-called-requires t c = omega arith

pub given-returns-in-None : goal.given-returns-in-None
given-returns-in-None t c = rw c.in-None.is (c.gives_none.ensures (calls (setting_of c.args.plain.now) c.args.calls))

pub given-returns-in-Int : goal.given-returns-in-Int
given-returns-in-Int t c = rw (c.in-Some.is, c.in-Int.is) c.gives.ensures

pub given-returns-in-Ptr : goal.given-returns-in-Ptr
given-returns-in-Ptr t c = rw (c.in-Some.is, c.in-Ptr.is) c.gives-in-Ptr.ensures

pub given-returns-in-Call : goal.given-returns-in-Call
given-returns-in-Call t c = rw (c.in-Some.is, c.in-Call.is) c.called.ensures

pub called-call-requires : goal.called-call-requires
called-call-requires t c = omega arith

pub called-returns-in-Err : goal.called-returns-in-Err
called-returns-in-Err t c = let h = rw c.in-Err.is at c.in_ok-got.ensures in rw (← h) refl

pub called-returns-in_ok-end-in-Ok : goal.called-returns-in_ok-end-in-Ok
called-returns-in_ok-end-in-Ok t c =
    let r : Setting = setting_of c.args.plain.now in
    let h = rw c.in-Ok.is at c.in_ok-got.ensures in
    c.after_called.ensures ∙ ap (λ out. then_with out (purpose_of r c.args.purpose)) c.in_ok-end-in-Ok.ensures ∙ rw (← h) refl

-- ---- calls

pub call-body-requires : goal.call-body-requires
call-body-requires t c =
    let p = c.args.plain.now.layout.program.now in
    let falls = room_falls p c.args.calls (omega arith) in
    let within = body_within_widest p c.args.f.0 c.in-Some.fun.now (sym c.in-Some.ensures.value) in
    let same = ap weights c.as_slice-in-Some-2.ensures in
    (omega arith, omega arith)

pub call-returns-then-calls-eq0 : goal.call-returns-then-calls-eq0
call-returns-then-calls-eq0 t c = rw c.if-calls-eq0.true refl

pub call-returns-in-None : goal.call-returns-in-None
call-returns-in-None t c =
    let r : Setting = setting_of c.args.plain.now in
    rw (calls_step r c.args.calls c.args.f.0 c.args.cells c.args.state.now (omega arith), ← c.in-None.ensures.value) refl

pub call-returns : goal.call-returns
call-returns t c =
    let r : Setting = setting_of c.args.plain.now in
    let begins = rw (c.as_slice.ensures, c.as_slice-in-Some.ensures) at c.in_ok-enter-in-Some.ensures in
    let ran = rw c.as_slice-in-Some-2.ensures at c.in_ok-end-in-Some.ensures in
    call_done r c.args.calls c.args.f.0 c.in-Some.fun.now c.args.cells c.args.state.now c.enter.new.state c.body.new.state (ending_of c.in_ok-end-in-Some.end)
    (ending_of c.call_end.result) c.leave.new.store c.len-objects.result c.in_ok-names-in-Some.names (omega arith) c.in-Some.ensures.value begins ran
    c.len-objects.ensures c.in_ok-names-in-Some.ensures c.leave.ensures c.call_end.ensures

pub body-statement-requires : goal.body-statement-requires
body-statement-requires t c =
    let item = c.index-items-at.result in
    let w : weight item ≤ weights c.args.items.now =
    subst (λ x. weight x ≤ weights c.args.items.now) (sym c.index-items-at.is) (weight_within c.args.items.now c.loop-at.at item (omega arith)) in
    (omega arith, omega arith)

pub body-returns-in-Some : goal.body-returns-in-Some
body-returns-in-Some t c =
    let r : Setting = setting_of c.args.plain.now in
    let call : Caller = calls r c.args.calls in
    let items : List Stmt = c.args.items.now in
    let at = c.loop-at.at in
    let rest : State → Outcome = body_execution r call (drop (at + 1) items) in
    c.in-Some.ensures c.statement.new.state rest
    ∙ sym
    (body_turns r call items at c.index-items-at.result c.loop-at.state (ending_of c.in_ok-end.end) c.statement.new.state (omega arith) c.index-items-at.is
    c.in_ok-end.ensures)
    ∙ c.loop-at.invariant

pub body-loop-at-preserved : goal.body-loop-at-preserved
body-loop-at-preserved t c =
    let r : Setting = setting_of c.args.plain.now in
    let call : Caller = calls r c.args.calls in
    let items : List Stmt = c.args.items.now in
    let at = c.loop-at.at in
    let rest : State → Outcome = body_execution r call (drop (at + 1) items) in
    c.in-None.ensures c.statement.new.state rest
    ∙ sym
    (body_turns r call items at c.index-items-at.result c.loop-at.state (ending_of c.in_ok-end.end) c.statement.new.state (omega arith) c.index-items-at.is
    c.in_ok-end.ensures)
    ∙ c.loop-at.invariant

pub body-returns : goal.body-returns
body-returns t c =
    let r : Setting = setting_of c.args.plain.now in
    let call : Caller = calls r c.args.calls in
    sym (at_drop_all (λ xs. body_execution r call xs c.loop-at.state) c.args.items.now c.loop-at.at (omega arith)) ∙ c.loop-at.invariant
