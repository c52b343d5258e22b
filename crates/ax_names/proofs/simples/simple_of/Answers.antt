use Rattle.ax_names.proofs.simples.simple_of.Goals as goal

pub returns-in-Change : goal.returns-in-Change
returns-in-Change c = rw c.in-Change.is (c.change.ensures c.args.defs.now c.in-Change.field-0)

pub returns-in-Call : goal.returns-in-Call
returns-in-Call c = rw c.in-Call.is (c.call.ensures c.in-Call.field-0)
