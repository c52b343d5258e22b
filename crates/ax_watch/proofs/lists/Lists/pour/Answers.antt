use Rattle.ax_watch.proofs.Pouring.{poured_all, poured_more}
use Rattle.ax_watch.proofs.lists.Lists.pour.Goals as goal

pub returns-in-None : goal.returns-in-None
returns-in-None c = rw c.in-None.ensures.kept (poured_all c.args.from c.args.to _ _ c.cells.invariant c.in-None.ensures.none)

pub cells-preserved : goal.cells-preserved
cells-preserved c = poured_more c.args.from c.args.to _ c.cells.self c.pop.new.self _ c.in-Some.cell c.requires.differ c.cells.invariant c.in-Some.ensures.some c.push.ensures
