use Rattle.std.proofs.Common.{arith}
use Rattle.ax_proof.proofs.Runs.{below_along, begins_length}
use Rattle.ax_watch.proofs.Trails.{paired_along}
use Rattle.ax_watch.proofs.Walks.{walks_itself, walks_watching, walks_along, reached_end}
use Rattle.ax_watch.proofs.watched.run.Goals as goal

pub heads-init : goal.heads-init
heads-init c = record {
  walks = walks_itself _ c.args.trail.now c.args.watched.now c.args.lists.now c.requires.watching;
  reached = c.requires.reached;
  low = c.requires.from;
}

pub walk-requires-clause-below : goal.walk-requires-clause-below
walk-requires-clause-below c = below_along _ c.args.trail.now c.heads.trail c.heads.invariant.walks.goes_on c.requires.below

pub walk-requires-clause-paired : goal.walk-requires-clause-paired
walk-requires-clause-paired c = paired_along _ c.args.trail.now c.heads.trail c.heads.invariant.walks.goes_on c.requires.paired

pub walk-requires-clause-watching : goal.walk-requires-clause-watching
walk-requires-clause-watching c = walks_watching _ c.args.trail.now _ _ c.heads.trail _ _ c.heads.invariant.walks

pub returns-in-Some-clause-walks : goal.returns-in-Some-clause-walks
returns-in-Some-clause-walks c = walks_along _ c.args.trail.now _ _ c.heads.trail _ _ c.heads.invariant.walks c.walk.new.trail c.walk.new.watched c.walk.new.lists c.requires.paired c.walk.ensures.walks

pub returns-clause-reached : goal.returns-clause-reached
returns-clause-reached c =
    let n = c.lits.ensures.value in
    let low = c.heads.invariant.low in
    reached_end _ _ _ c.heads.head (rw c.lits.ensures.value at c.heads-test.false) low c.heads.invariant.reached

pub heads-preserved : goal.heads-preserved
heads-preserved c =
    let longer = begins_length _ _ c.walk.ensures.walks.goes_on.lits in
    let within = rw c.lits.ensures.value at c.heads-test.true in
    record {
      walks = walks_along _ c.args.trail.now _ _ c.heads.trail _ _ c.heads.invariant.walks c.walk.new.trail c.walk.new.watched c.walk.new.lists c.requires.paired c.walk.ensures.walks;
      reached = c.in-None.ensures.reached;
      low = omega arith;
    }
