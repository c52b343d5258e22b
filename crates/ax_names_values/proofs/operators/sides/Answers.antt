use Rattle.ax_names_values.proofs.operators.sides.Goals as goal

pub returns-in-Int : goal.returns-in-Int
returns-in-Int c = rw c.in-Int.is (c.number_sides.ensures c.args.zeros.1)

pub returns-in-Ptr : goal.returns-in-Ptr
returns-in-Ptr c = rw c.in-Ptr.is (c.pointer_sides.ensures c.args.zeros.0)
