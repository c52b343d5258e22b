use Rattle.std.proofs.Common.{refl}
use Rattle.ax_interp_acts.proofs.Chains.{err_is}
use Rattle.ax_interp_acts.proofs.assigning.give.Goals as goal

pub returns-in_err-begin_step : goal.returns-in_err-begin_step
returns-in_err-begin_step c = rw (err_is c.from_residual.result c.in_err-begin_step.field-0.0 c.from_residual.ensures.1, ← c.in_err-begin_step.ensures c.args.layout.now.program.now) refl

pub returns : goal.returns
returns c = rw (← c.in_ok-begin_step.ensures c.args.layout.now.program.now) (c.source_value.ensures c.args.steps)
