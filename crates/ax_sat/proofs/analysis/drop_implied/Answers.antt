use Rattle.std.proofs.Common.{◌<◌, length, arith}
use Rattle.ax_sat.proofs.Marking.{at_below, forced_here}
use Rattle.ax_sat.proofs.analysis.drop_implied.Goals as goal

pub has-requires : goal.has-requires
has-requires c =
    let within : c.args.index < length c.trail.result.now = rw c.trail.ensures.value c.requires.index in
    let h = at_below _ _ c.args.index _ _ c.index-trail-index.result c.trail.ensures.value within c.index-trail-index.is c.trail.ensures.sound.literals c.requires.size in
    let e = c.var.ensures.value in omega arith

pub resolve-requires-clause-forced : goal.resolve-requires-clause-forced
resolve-requires-clause-forced c = forced_here c.args.watch.now.trail c.trail.result.now c.args.index c.index-trail-index.result _ c.trail.ensures.value c.index-trail-index.is (c.in-Some.ensures.forces.1 c.index-trail-index.result).0
