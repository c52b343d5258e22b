use Rattle.std.proofs.Common.{◌≡◌, ◌<◌, ◌++◌, ◌∷◌, [], ℕ, List, Some, slice_get, length, ap, sym, subst, ◌∙◌}
use Rattle.std.specs.Option.{option_copied}
use Rattle.ax_term.specs.Order.{tree_at, trees_at}
use Rattle.ax_term.specs.Walk.{AllTasks, finish, load}
use Rattle.ax_term.specs.declared.walk.Task.{Task}
use Rattle.ax_term.specs.declared.walk.Task.TheVariants.{Enter}
use Rattle.ax_term.proofs.Walks.{seen_mark, skip_finishes, taken_lighter, get_some, open_tasks, open_finishes, open_lighter}
use Rattle.ax_term.proofs.walk.enter.Goals as goal

pub returns-then-index-clause-finishes : goal.returns-then-index-clause-finishes
returns-then-index-clause-finishes c =
    skip_finishes c.args.bank.now c.args.stack.now.items c.args.number (trees_at c.args.bank.now c.args.seen.now.order.items)
    (seen_mark c.args.bank.now c.args.seen.now.marks.items c.args.seen.now.order.items c.args.number c.index.result.now c.requires.seen c.requires.number c.index.ensures ∙ c.if-index.true)

pub returns-then-index-clause-lighter : goal.returns-then-index-clause-lighter
returns-then-index-clause-lighter c = taken_lighter c.args.bank.now c.args.stack.now.items (Enter c.args.number)

pub unwrap-term-requires : goal.unwrap-term-requires
unwrap-term-requires c = get_some c.get.result c.args.bank.now c.args.number c.get.ensures c.requires.number

pub returns-clause-tasks : goal.returns-clause-tasks
returns-clause-tasks c =
    let g : slice_get c.args.bank.now c.args.number ≡ Some c.unwrap-term.result.now = sym c.get.ensures ∙ ap option_copied c.unwrap-term.ensures in
    subst (AllTasks (length c.args.bank.now)) (sym c.in_ok-push_tasks.ensures)
    (open_tasks c.args.bank.now c.args.stack.now.items c.args.number c.unwrap-term.result.now c.requires.bank g c.requires.number c.requires.tasks)

pub returns-clause-finishes : goal.returns-clause-finishes
returns-clause-finishes c =
    let g : slice_get c.args.bank.now c.args.number ≡ Some c.unwrap-term.result.now = sym c.get.ensures ∙ ap option_copied c.unwrap-term.ensures in
    ap (λ (st : List Task). finish c.args.bank.now st (trees_at c.args.bank.now c.args.seen.now.order.items)) c.in_ok-push_tasks.ensures
    ∙ open_finishes c.args.bank.now c.args.stack.now.items c.args.number c.unwrap-term.result.now (trees_at c.args.bank.now c.args.seen.now.order.items) c.requires.bank g
    (seen_mark c.args.bank.now c.args.seen.now.marks.items c.args.seen.now.order.items c.args.number c.index.result.now c.requires.seen c.requires.number c.index.ensures ∙ c.if-index.false)

pub returns-clause-lighter : goal.returns-clause-lighter
returns-clause-lighter c =
    let g : slice_get c.args.bank.now c.args.number ≡ Some c.unwrap-term.result.now = sym c.get.ensures ∙ ap option_copied c.unwrap-term.ensures in
    subst (λ (st : List Task). load c.args.bank.now st < load c.args.bank.now (c.args.stack.now.items ++ Enter c.args.number ∷ [])) (sym c.in_ok-push_tasks.ensures)
    (open_lighter c.args.bank.now c.args.stack.now.items c.args.number c.unwrap-term.result.now c.requires.bank g)
