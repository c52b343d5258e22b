use Rattle.ax_sat.proofs.Marking.{suffices_start, explained, if_some}
use Rattle.ax_sat.proofs.analysis.learn.Goals as goal

pub walk-requires-clause-begin : goal.walk-requires-clause-begin
walk-requires-clause-begin c =
    let marked = rw c.if-not-branch.false at c.in_ok-mark.ensures.marked in
    suffices_start c.args.watch.now.clauses c.args.watch.now.trail c.mark.new.marks.on c.args.watch.now.vars c.args.place c.requires.place c.trail-known.ensures.sound.literals c.requires.falsified marked

pub returns-clause-explains : goal.returns-clause-explains
returns-clause-explains c =
    let suf = rw c.if-not-branch-3.false at c.in_ok-shorten.ensures.end in
    if_some c.in_ok-line.line _ _ (λ line h. explained c.args.watch.now.clauses c.args.watch.now.trail _ c.args.start line suf h) c.in_ok-line.ensures
