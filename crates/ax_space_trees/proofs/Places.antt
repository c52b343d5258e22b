use Rattle.std.proofs.Common.{◌≡◌, ℕ, List, refl}
use Rattle.ax_space_trees.specs.declared.Choice.{Choice}
use Rattle.ax_space_trees.specs.declared.Place.{Place}
use Rattle.ax_space_trees.specs.declared.Place.TheVariants as p
use Rattle.ax_space_trees.specs.declared.Place.TheBlock.{shape-the_row-Place-0, hidden-the_row-Place-0}
use Rattle.ax_space_trees.specs.Listed.{node, listed}
use denote.Hole.Carrier

pub listed-At : (budget : ℕ) (choices : List Choice) (a b c : Place) → listed budget (p.At choices a b c) ≡ node budget choices (listed budget a) (listed budget b) (listed budget c)
unfolding shape-the_row-Place-0 hidden-the_row-Place-0 Carrier.hidden
listed-At budget choices a b c = refl

pub ruleset layers = (listed-At)
