use Rattle.ax_interp.proofs.acting.keeps.Goals as goal

pub returns : goal.returns
returns c = rw (← c.keep-got.ensures c.args.context.now.steps) c.further.ensures
