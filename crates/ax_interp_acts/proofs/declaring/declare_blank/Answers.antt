use Rattle.std.proofs.Common.{refl, ap}
use Rattle.ax_meaning.specs.Acts.{Done}
use Rattle.ax_interp_acts.proofs.declaring.declare_blank.Goals as goal

pub returns-in-Err : goal.returns-in-Err
returns-in-Err c = rw (← c.in-Err.ensures c.args.layout.now.program.now) refl

pub returns-in_ok-begin_blank-in-Ok : goal.returns-in_ok-begin_blank-in-Ok
returns-in_ok-begin_blank-in-Ok c = rw (← c.in-Ok.ensures c.args.layout.now.program.now) (ap (λ st. Done tt st) c.in_ok-begin_blank-in-Ok.ensures)
