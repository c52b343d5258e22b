use Rattle.ax_interp_acts.proofs.deciding.goes_on.Goals as goal

pub returns-in-None : goal.returns-in-None
returns-in-None c = rw (c.in-None.is) (c.always.ensures c.args.layout.now.program.now)
