use Rattle.std.proofs.Common.{refl}
use Rattle.ax_interp_acts.proofs.Chains.{err_is}
use Rattle.ax_interp_acts.proofs.assigning.read.Goals as goal

pub returns-in_err-begin_step : goal.returns-in_err-begin_step
returns-in_err-begin_step c = rw (err_is c.from_residual.result c.in_err-begin_step.field-0.0 c.from_residual.ensures.1, ← c.in_err-begin_step.ensures c.args.layout.now.program.now) refl

pub returns-in_err-at : goal.returns-in_err-at
returns-in_err-at c = rw (err_is c.from_residual-in_err-at.result c.in_err-at.field-0.0 c.from_residual-in_err-at.ensures.1, ← c.in_ok-begin_step.ensures c.args.layout.now.program.now, ← c.place_at.ensures, ← c.in_err-at.ensures c.begin_step.new.state) refl

pub returns : goal.returns
returns c = rw (← c.in_ok-begin_step.ensures c.args.layout.now.program.now, ← c.place_at.ensures, ← c.in_ok-at.ensures c.begin_step.new.state) c.take_input.ensures
