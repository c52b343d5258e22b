use Rattle.ax_watch.proofs.watch.Watch.truth.Goals as goal

pub returns : goal.returns
returns c = rw (← c.self.view_is) c.truth.ensures
