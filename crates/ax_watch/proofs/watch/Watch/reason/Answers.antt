use Rattle.std.proofs.Common.{arith}
use Rattle.ax_watch.proofs.Trails.{forces_of}
use Rattle.ax_watch.proofs.watch.Watch.reason.Goals as goal

pub returns-clause-forces : goal.returns-clause-forces
returns-clause-forces c =
    let differs = rw c.reasons.ensures at c.if-number-eq0.false in
    rw (← c.self.view_is) (forces_of _ _ _ c.args.at _ c.self.invariant.reasons (rw (← c.self.view_is) at c.requires) (rw c.reasons.ensures (omega arith)))
