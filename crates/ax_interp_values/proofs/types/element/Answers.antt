use Rattle.ax_meaning.proofs.Trees.{element_of-Array}
use Rattle.ax_interp_values.proofs.types.element.Goals as goal

pub returns-in-Array : goal.returns-in-Array
returns-in-Array c = rw (c.in-Array.is, element_of-Array) c.get.ensures
