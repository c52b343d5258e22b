use Rattle.std.proofs.Common.{refl}
use Rattle.ax_interp_acts.proofs.Chains.{err_is}
use Rattle.ax_interp_acts.proofs.deciding.always.Goals as goal

pub returns-in_err-begin_step : goal.returns-in_err-begin_step
returns-in_err-begin_step c = λ program. rw (err_is c.from_residual.result c.in_err-begin_step.field-0.0 c.from_residual.ensures.1, ← c.in_err-begin_step.ensures program) refl

pub returns : goal.returns
returns c = λ program. rw (← c.in_ok-begin_step.ensures program) refl
