use Rattle.std.proofs.Common.{◌+◌, ◌≡◌, ◌∙◌, ◌*◌, length, arith}
use Rattle.ax_watch.specs.Lists.{cell_count, IsIdle}
use Rattle.ax_watch.proofs.Adding.{long_watching, long_kept, idle_same, idle_put}
use Rattle.ax_watch.proofs.watched.begin.Goals as goal

pub link-requires-clause-idle : goal.link-requires-clause-idle
link-requires-clause-idle c =
    let n = c.requires.cells in
    let m = c.requires.sized in
    let k = c.len-cell.ensures in
    let e : c.len-cell.result ≡ cell_count c.args.lists.now = omega arith in
    rw e (idle_same c.grow.new.self c.grow-2.new.self _ c.grow-2.ensures.kept c.grow.ensures.idle)

pub link-requires-2-clause-idle : goal.link-requires-2-clause-idle
link-requires-2-clause-idle c =
    let n = c.requires.cells in
    let m = c.requires.sized in
    let k = c.len-cell.ensures in
    let g = c.grow.ensures.cells in
    let e : c.len-cell.result + 1 ≡ cell_count c.grow.new.self = omega arith in
    let idle : IsIdle c.grow-2.new.self (c.len-cell.result + 1) = rw e c.grow-2.ensures.idle in
    idle_put _ c.len-cell.result (c.len-cell.result + 1) c.grow-2.new.self c.link.new.lists c.link.ensures (omega arith) idle

pub returns-clause-watching : goal.returns-clause-watching
returns-clause-watching c = λ size watching.
    let n = c.requires.cells in
    let m = c.requires.sized in
    let k = c.len-cell.ensures in
    let a = c.grow.ensures.cells in
    let b = c.grow-2.ensures.cells in
    let more : cell_count c.grow-2.new.self ≡ cell_count c.args.lists.now + 2 = omega arith in
    let k_is : c.len-cell.result ≡ 2 * length c.args.store.now.clauses = omega arith in
    let va = c.var-first.ensures.value in
    let vb = c.var-second.ensures.value in
    let la = c.var-first.ensures.low in
    let lb = c.var-second.ensures.low in
    let puts = rw (c.as_slice.ensures.value, c.push_reserved-2.ensures.items, c.push_reserved.ensures.items) at c.link.ensures in
    let puts2 = rw (c.as_slice-2.ensures.value, c.push_reserved-2.ensures.items, c.push_reserved.ensures.items) at c.link-2.ensures in
    rw (c.push_reserved-2.ensures.items, c.push_reserved.ensures.items) (
    long_watching _ c.args.clause.now size _ c.args.pair.first c.args.pair.second c.args.lists.now watching c.grow-2.new.self
    (λ l. c.grow-2.ensures.kept l ∙ c.grow.ensures.kept l) (c.grow-2.ensures.lists ∙ c.grow.ensures.lists) more c.requires.long
    c.requires.first c.requires.second c.requires.differ (omega arith) (omega arith) c.link.new.lists _ c.len-cell.result k_is puts puts2
    )

pub returns-clause-kept : goal.returns-clause-kept
returns-clause-kept c = λ size part whole watching alive alive_too before.
    let n = c.requires.cells in
    let m = c.requires.sized in
    let k = c.len-cell.ensures in
    let a = c.grow.ensures.cells in
    let b = c.grow-2.ensures.cells in
    let more : cell_count c.grow-2.new.self ≡ cell_count c.args.lists.now + 2 = omega arith in
    let k_is : c.len-cell.result ≡ 2 * length c.args.store.now.clauses = omega arith in
    let va = c.var-first.ensures.value in
    let vb = c.var-second.ensures.value in
    let la = c.var-first.ensures.low in
    let lb = c.var-second.ensures.low in
    let puts = rw (c.as_slice.ensures.value, c.push_reserved-2.ensures.items, c.push_reserved.ensures.items) at c.link.ensures in
    let puts2 = rw (c.as_slice-2.ensures.value, c.push_reserved-2.ensures.items, c.push_reserved.ensures.items) at c.link-2.ensures in
    rw (c.push_reserved-2.ensures.items, c.push_reserved.ensures.items) (
    long_kept _ c.args.clause.now size _ c.args.pair.first c.args.pair.second c.args.lists.now watching c.grow-2.new.self
    (λ l. c.grow-2.ensures.kept l ∙ c.grow.ensures.kept l) (c.grow-2.ensures.lists ∙ c.grow.ensures.lists) more c.requires.long
    c.requires.first c.requires.second c.requires.differ (omega arith) (omega arith) c.link.new.lists _ c.len-cell.result k_is puts puts2
    part whole alive alive_too before
    )
