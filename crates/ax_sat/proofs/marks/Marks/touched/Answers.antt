use Rattle.ax_sat.proofs.marks.Marks.touched.Goals as goal

pub returns-clause-listed : goal.returns-clause-listed
returns-clause-listed c = rw (← c.self.view_is) c.self.invariant.listed
