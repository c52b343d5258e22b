use Rattle.std.proofs.Common.{refl}
use Rattle.ax_interp_acts.proofs.Chains.{err_is}
use Rattle.ax_interp_acts.proofs.assigning.assign.Goals as goal

pub returns-in_err-begin_step : goal.returns-in_err-begin_step
returns-in_err-begin_step c = rw (err_is c.from_residual.result c.in_err-begin_step.field-0.0 c.from_residual.ensures.1, ← c.in_err-begin_step.ensures c.args.layout.now.program.now) refl

pub returns-in_err-target : goal.returns-in_err-target
returns-in_err-target c = rw (err_is c.from_residual-in_err-target.result c.in_err-target.field-0.0 c.from_residual-in_err-target.ensures.1, ← c.in_ok-begin_step.ensures c.args.layout.now.program.now, ← c.place_at.ensures, ← c.in_err-target.ensures c.begin_step.new.state) refl

pub returns-in_err-stored : goal.returns-in_err-stored
returns-in_err-stored c = rw (err_is c.from_residual-in_err-stored.result c.in_err-stored.field-0.0 c.from_residual-in_err-stored.ensures.1, ← c.in_ok-begin_step.ensures c.args.layout.now.program.now, ← c.place_at.ensures, ← c.in_ok-target.ensures c.begin_step.new.state, ← c.in_err-stored.ensures c.args.steps) refl

pub returns : goal.returns
returns c = rw (← c.in_ok-begin_step.ensures c.args.layout.now.program.now, ← c.place_at.ensures, ← c.in_ok-target.ensures c.begin_step.new.state, ← c.in_ok-stored.ensures c.args.steps) c.put.ensures
