use Rattle.ax_names_given.proofs.Layers.{call_made}
use Rattle.ax_names_given.proofs.calls.call_of.Goals as goal

pub returns-in-Call : goal.returns-in-Call
returns-in-Call c = record { made = call_made c.args.defs.now c.args.st.now c.callee_of.new.st c.args.a.now c.in-Call.callee c.get.result.now c.in-Call.at c.in-Call.xs c.as_slice.result.now c.callee_of.result c.in-Call.is c.get.ensures c.as_slice.ensures c.callee_of.ensures }
