use Rattle.ax_interp_acts.proofs.Within.{struct_in-Array}
use Rattle.ax_interp_acts.proofs.zeros.+struct_in.Goals as goal

pub returns-in-Array : goal.returns-in-Array
returns-in-Array t c = rw (c.in-Array.is, struct_in-Array, ← c.get.ensures) c.struct_in.ensures
