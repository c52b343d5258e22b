use Rattle.std.proofs.Common.{refl}
use Rattle.ax_interp_acts.proofs.printing.print.Goals as goal

pub returns-in-Err : goal.returns-in-Err
returns-in-Err c = rw (← c.in-Err.ensures c.args.layout.now.program.now) refl

pub returns-in-Ok : goal.returns-in-Ok
returns-in-Ok c = rw (← c.in-Ok.ensures c.args.layout.now.program.now, ← c.slot_value-answer.ensures c.args.steps) c.print_value.ensures
