use Rattle.ax_interp_acts.proofs.assigning.source_value.Goals as goal

pub returns-in-Int : goal.returns-in-Int
returns-in-Int c = λ steps. rw (c.in-Int.is) (c.slot_cell.ensures steps)
