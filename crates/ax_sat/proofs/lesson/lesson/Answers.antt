use Rattle.ax_sat.proofs.Denying.{denials_explain}
use Rattle.ax_sat.proofs.Marking.{stands_at}
use Rattle.ax_sat.proofs.lesson.lesson.Goals as goal

pub returns-in_ok-line-in-None-clause-explains : goal.returns-in_ok-line-in-None-clause-explains
returns-in_ok-line-in-None-clause-explains c =
    let sound = c.trail-known.ensures.sound in
    denials_explain c.args.watch.now.clauses c.args.watch.now.trail c.args.watch.now.reasons c.args.starts.now c.in_ok-line-in-None.line c.requires.stands sound.reasons sound.consistent sound.trail.once c.requires.some c.in_ok-line-in-None.ensures.same c.in_ok-line-in-None.ensures.rising _ (stands_at _ c.args.place c.requires.place) c.requires.falsified
