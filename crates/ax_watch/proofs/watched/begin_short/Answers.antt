use Rattle.std.proofs.Common.{◌+◌, ◌≡◌, ◌∙◌, arith}
use Rattle.ax_watch.specs.Lists.{cell_count}
use Rattle.ax_watch.proofs.Adding.{short_watching}
use Rattle.ax_watch.proofs.watched.begin_short.Goals as goal

pub returns-clause-watching : goal.returns-clause-watching
returns-clause-watching c = λ size watching.
    let a = c.grow.ensures.cells in
    let b = c.grow-2.ensures.cells in
    let more : cell_count c.grow-2.new.self ≡ cell_count c.args.lists.now + 2 = omega arith in
    rw (c.push_reserved-2.ensures.items, c.push_reserved.ensures.items) (
    short_watching _ c.args.clause.now size _ c.default.result c.default-2.result c.args.lists.now watching c.grow-2.new.self
    (λ l. c.grow-2.ensures.kept l ∙ c.grow.ensures.kept l) (c.grow-2.ensures.lists ∙ c.grow.ensures.lists) more c.requires.short
    )
