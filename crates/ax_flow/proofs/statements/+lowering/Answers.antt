use Rattle.std.proofs.Common.{◌≡◌, ◌+◌, [], refl, ap, length}
use Rattle.ax_flow.specs.Drafts.{draft_of, block_draft, block_declared, optional_draft}
use Rattle.ax_flow.proofs.Layers.{draft_of-If, draft_of-If_else, draft_of-While, draft_of-For}
use Rattle.ax_flow.proofs.Loops.{for_done}
use Rattle.ax_flow.proofs.statements.+lowering.Goals as goal

pub statement-returns-in-None : goal.statement-returns-in-None
statement-returns-in-None t c =
    let first : c.in_ok-first-in-If.first ≡ draft_of c.in-If.first c.args.opened.now (c.args.at + 1) =
    rw (c.in_ok-first-in-If.ensures, c.get.ensures, c.in_ok-start-in-If.ensures) refl in
    rw (c.in-If.is, c.in-None.is, draft_of-If, ← first) c.if_code.ensures

pub statement-returns-in-If : goal.statement-returns-in-If
statement-returns-in-If t c =
    let first : c.in_ok-first-in-If.first ≡ draft_of c.in-If.first c.args.opened.now (c.args.at + 1) =
    rw (c.in_ok-first-in-If.ensures, c.get.ensures, c.in_ok-start-in-If.ensures) refl in
    let second : c.in_ok-second-in-Some.second ≡ draft_of c.in-Some.second c.args.opened.now (c.args.at + 1 + length c.in_ok-first-in-If.first + 1) =
    rw (c.in_ok-second-in-Some.ensures, c.get-in-Some.ensures, c.in_ok-other-in-Some.ensures, c.in_ok-after-in-Some.ensures, c.len.ensures, c.in_ok-start-in-If.ensures) refl in
    rw (c.in-If.is, c.in-Some.is, draft_of-If_else, ← first, ← second) c.else_code.ensures

pub statement-returns-in-While : goal.statement-returns-in-While
statement-returns-in-While t c =
    let body : c.in_ok-body-in-While.body ≡ draft_of c.in-While.body [] (c.args.at + 1) =
    rw (c.in_ok-body-in-While.ensures, c.get-in-While.ensures, c.new-none.ensures, c.in_ok-after-in-While.ensures) refl in
    rw (c.in-While.is, draft_of-While, ← body) c.while_code.ensures

pub statement-returns-in-None-next : goal.statement-returns-in-None-next
statement-returns-in-None-next t c =
    let head : c.in_ok-head-in-For.head ≡ block_draft c.in-For.first c.args.opened.now c.args.at =
    rw (c.in_ok-head-in-For.ensures, c.as_slice-first.ensures) refl in
    let turn : c.in_ok-turn-in-For.turn ≡ draft_of c.in-For.body [] (c.args.at + length c.in_ok-head-in-For.head + 1) =
    rw (c.in_ok-turn-in-For.ensures, c.get-in-For.ensures, c.new-none-in-For.ensures, c.in_ok-start-in-For.ensures, c.in_ok-after-in-For.ensures, c.len-in-For.ensures) refl in
    let last : c.new-in-None-next.result ≡ optional_draft c.in-For.next (block_declared c.in-For.first c.args.opened.now) (c.args.at + length c.in_ok-head-in-For.head + 1 + length c.in_ok-turn-in-For.turn) =
    rw (c.in-None-next.is, c.new-in-None-next.ensures) refl in
    rw (c.in-For.is, draft_of-For)
    (for_done c.for_code.result c.in-For.first c.in-For.id c.in-For.next c.in-For.body c.args.opened.now c.args.at c.in_ok-head-in-For.head c.in_ok-turn-in-For.turn c.new-in-None-next.result
    (block_declared c.as_slice-first.result.now []) head turn last (ap (λ items. block_declared items []) c.as_slice-first.ensures) c.for_code.ensures)

pub statement-returns-in-For : goal.statement-returns-in-For
statement-returns-in-For t c =
    let head : c.in_ok-head-in-For.head ≡ block_draft c.in-For.first c.args.opened.now c.args.at =
    rw (c.in_ok-head-in-For.ensures, c.as_slice-first.ensures) refl in
    let turn : c.in_ok-turn-in-For.turn ≡ draft_of c.in-For.body [] (c.args.at + length c.in_ok-head-in-For.head + 1) =
    rw (c.in_ok-turn-in-For.ensures, c.get-in-For.ensures, c.new-none-in-For.ensures, c.in_ok-start-in-For.ensures, c.in_ok-after-in-For.ensures, c.len-in-For.ensures) refl in
    let last : c.in_ok-last-in-Some-next.last ≡ optional_draft c.in-For.next (block_declared c.in-For.first c.args.opened.now) (c.args.at + length c.in_ok-head-in-For.head + 1 + length c.in_ok-turn-in-For.turn) =
    rw (c.in-Some-next.is, c.in_ok-last-in-Some-next.ensures, c.get-in-Some-next.ensures, c.in_ok-vars-in-Some-next.ensures, c.as_slice-first.ensures, c.in_ok-place-in-Some-next.ensures, c.len-in-Some-next.ensures, c.in_ok-start-in-For.ensures, c.in_ok-after-in-For.ensures, c.len-in-For.ensures) refl in
    rw (c.in-For.is, draft_of-For)
    (for_done c.for_code-in-Some-next.result c.in-For.first c.in-For.id c.in-For.next c.in-For.body c.args.opened.now c.args.at c.in_ok-head-in-For.head c.in_ok-turn-in-For.turn c.in_ok-last-in-Some-next.last
    (block_declared c.as_slice-first.result.now []) head turn last (ap (λ items. block_declared items []) c.as_slice-first.ensures) c.for_code-in-Some-next.ensures)
