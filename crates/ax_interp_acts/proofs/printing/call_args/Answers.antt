use Rattle.std.proofs.Common.{refl}
use Rattle.ax_interp_acts.proofs.printing.call_args.Goals as goal

pub returns-in-Err : goal.returns-in-Err
returns-in-Err c = rw (← c.in-Err.ensures c.args.layout.now.program.now) refl

pub returns-in-Ok : goal.returns-in-Ok
returns-in-Ok c = rw (← c.in-Ok.ensures c.args.layout.now.program.now) (c.values_of_args.ensures c.args.steps)
