use Rattle.ax_space_trees.proofs.Places.{listed-At}
use Rattle.ax_space_trees.proofs.lister.+list.Goals as goal

pub returns-in_ok-thirds-in-At : goal.returns-in_ok-thirds-in-At
returns-in_ok-thirds-in-At t c = rw (c.in-At.is, listed-At, ← c.get.ensures, ← c.get-in-At.ensures, ← c.get-in-At-2.ensures, ← c.in_ok-firsts-in-At.ensures, ← c.in_ok-seconds-in-At.ensures, ← c.in_ok-thirds-in-At.ensures, ← c.as_slice.ensures, ← c.as_slice-in-At.ensures, ← c.as_slice-in-At-2.ensures, ← c.as_slice-in-At-3.ensures) c.with_choices.ensures
