use Rattle.std.proofs.Common.{◌-◌, ◌<◌, ◌∙◌, length, arith}
use Rattle.ax_sat.proofs.Marking.{at_below, forced_here}
use Rattle.ax_sat.proofs.analysis.walk.Goals as goal

pub has-requires : goal.has-requires
has-requires c =
    let at = c.loop-index.index - 1 in
    let within : at < length c.trail-trail.result.now = omega arith in
    let h = at_below _ _ at _ _ c.index-trail-index.result c.trail-trail.ensures.value within c.index-trail-index.is c.trail-trail.ensures.sound.literals (c.loop-index.invariant.size ∙ c.requires.size) in
    let e = c.var.ensures.value in omega arith

pub resolve-requires-clause-forced : goal.resolve-requires-clause-forced
resolve-requires-clause-forced c =
    let at = c.loop-index.index - 1 in
    forced_here c.args.watch.now.trail c.trail-trail.result.now at c.index-trail-index.result _ c.trail-trail.ensures.value c.index-trail-index.is (c.in-Some.ensures.forces.1 c.index-trail-index.result).0
