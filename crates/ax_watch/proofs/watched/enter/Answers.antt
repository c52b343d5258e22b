use Rattle.std.proofs.Common.{arith}
use Rattle.ax_watch.proofs.Adding.{short_added, short_same}
use Rattle.ax_watch.proofs.Reaching.{not_false_fewer}
use Rattle.ax_watch.proofs.watched.enter.Goals as goal

pub returns-then-clause-lt2-clause-short : goal.returns-then-clause-lt2-clause-short
returns-then-clause-lt2-clause-short c = λ before.
    let n = c.if-clause-lt2.true in
    rw c.push_reserved.ensures.items (short_added _ c.args.clause.now _ before c.len.result c.len.ensures (omega arith))

pub returns-clause-short : goal.returns-clause-short
returns-clause-short c = λ before.
    let n = c.if-clause-lt2.false in
    short_same _ c.args.clause.now _ before (omega arith)

pub returns-clause-kept : goal.returns-clause-kept
returns-clause-kept c = λ size watching len whole low before.
    let open_first = not_false_fewer _ _ len _ low c.pick-pair.ensures.first_open in
    let open_second = not_false_fewer _ _ len _ low c.pick-pair.ensures.second_open in
    c.begin.ensures.kept size _ whole watching open_first open_second before
