use Rattle.ax_watch.proofs.Stores.{clause_here}
use Rattle.ax_watch.proofs.store.literals_at.Goals as goal

pub returns : goal.returns
returns c = clause_here _ _ c.args.place _ c.requires.within
