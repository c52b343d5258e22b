use Rattle.ax_interp_plain.proofs.acting.use_value.Goals as goal

pub returns-in-Keep : goal.returns-in-Keep
returns-in-Keep c = rw (c.in-Keep.is, ← c.keep.ensures c.args.plain.now.steps) (c.acted.ensures c.keep.new.state)
