use Rattle.std.proofs.Common.{◌<◌, length}
use Rattle.ax_watch.proofs.Trails.{clause_over}
use Rattle.ax_watch.proofs.watch.Watch.clause.Goals as goal

pub returns-clause-over : goal.returns-clause-over
returns-clause-over c =
    let within : c.args.place < length c.self.inside.store.clauses = rw (← c.self.view_is) at c.requires in
    rw (← c.self.view_is) (clause_over _ _ c.args.place _ within c.get.ensures.value c.self.invariant.over)
