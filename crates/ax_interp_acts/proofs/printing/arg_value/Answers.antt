use Rattle.ax_interp_acts.proofs.printing.arg_value.Goals as goal

pub returns-in-Int : goal.returns-in-Int
returns-in-Int c = λ steps. rw (c.in-Int.is) (c.source_value.ensures steps)

pub returns-in-Ptr : goal.returns-in-Ptr
returns-in-Ptr c = λ steps. rw (c.in-Ptr.is) (c.source_value-in-Ptr.ensures steps)
