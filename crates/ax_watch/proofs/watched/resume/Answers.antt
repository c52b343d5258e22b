use Rattle.ax_proof.proofs.Runs.{below_along}
use Rattle.ax_watch.proofs.Walks.{walks_along}
use Rattle.ax_watch.proofs.Settling.{reaches_none, shorts_all, ends_says, ends_mark, settled_walks}
use Rattle.ax_watch.proofs.watched.resume.Goals as goal

pub run-requires-clause-reached : goal.run-requires-clause-reached
run-requires-clause-reached c = (rw c.in-Some.is at c.requires.from).reached

pub returns-in-Some-clause-says : goal.returns-in-Some-clause-says
returns-in-Some-clause-says c =
    ends_says _ c.args.trail.now _ _ c.run.new.trail _ _ c.run.ensures.walks (rw c.in-Some.is at c.requires.from).short c.run.result c.run.ensures.reached c.run.ensures.conflict

pub returns-in-Some-clause-mark : goal.returns-in-Some-clause-mark
returns-in-Some-clause-mark c =
    ends_mark _ c.args.trail.now _ _ c.run.new.trail _ _ c.run.ensures.walks (rw c.in-Some.is at c.requires.from).short c.run.result c.run.ensures.reached

pub run-requires-in-None-settle-clause-below : goal.run-requires-in-None-settle-clause-below
run-requires-in-None-settle-clause-below c = below_along _ c.args.trail.now c.settle.new.trail c.settle.ensures.goes_on c.requires.below

pub run-requires-in-None-settle-clause-reached : goal.run-requires-in-None-settle-clause-reached
run-requires-in-None-settle-clause-reached c = reaches_none _ _ _

pub returns-in-Some-settle-clause-walks : goal.returns-in-Some-settle-clause-walks
returns-in-Some-settle-clause-walks c = settled_walks _ c.args.trail.now c.settle.new.trail _ _ c.settle.ensures.goes_on c.requires.watching

pub returns-in-None-settle-clause-walks : goal.returns-in-None-settle-clause-walks
returns-in-None-settle-clause-walks c =
    let first = settled_walks _ c.args.trail.now c.settle.new.trail _ _ c.settle.ensures.goes_on c.requires.watching in
    walks_along _ c.args.trail.now _ _ c.settle.new.trail _ _ first c.run-in-None-settle.new.trail c.run-in-None-settle.new.watched c.run-in-None-settle.new.lists c.requires.paired c.run-in-None-settle.ensures.walks

pub returns-in-None-settle-clause-says : goal.returns-in-None-settle-clause-says
returns-in-None-settle-clause-says c =
    ends_says _ c.settle.new.trail _ _ c.run-in-None-settle.new.trail _ _ c.run-in-None-settle.ensures.walks (shorts_all _ _ _ c.requires.short.1 c.in-None-settle.ensures.settled)
    c.run-in-None-settle.result c.run-in-None-settle.ensures.reached c.run-in-None-settle.ensures.conflict

pub returns-in-None-settle-clause-mark : goal.returns-in-None-settle-clause-mark
returns-in-None-settle-clause-mark c =
    ends_mark _ c.settle.new.trail _ _ c.run-in-None-settle.new.trail _ _ c.run-in-None-settle.ensures.walks (shorts_all _ _ _ c.requires.short.1 c.in-None-settle.ensures.settled)
    c.run-in-None-settle.result c.run-in-None-settle.ensures.reached
