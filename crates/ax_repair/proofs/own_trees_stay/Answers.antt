use Rattle.ax_repair.proofs.Stays.{own_trees_stay as law}
use Rattle.ax_repair.proofs.own_trees_stay.Goals as goal

pub returns : goal.returns
returns c = law
