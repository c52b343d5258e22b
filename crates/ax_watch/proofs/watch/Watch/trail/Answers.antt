use Rattle.ax_watch.proofs.Trails.{trail_sized}
use Rattle.ax_watch.proofs.watch.Watch.trail.Goals as goal

pub returns-clause-sound : goal.returns-clause-sound
returns-clause-sound c =
    rw (← c.self.view_is) (record {
      clauses = c.known.ensures;
      over = c.self.invariant.over;
      literals = c.self.invariant.literals;
      trail = trail_sized _ c.self.invariant.size c.lits.ensures.trail;
      consistent = c.lits.ensures.consistent;
      reasons = c.self.invariant.reasons;
    })
