use Rattle.std.proofs.Common.{refl, rules}
use Rattle.ax_interp_acts.proofs.Chains.{err_is}
use Rattle.std.proofs.lemmas.Int.{to_z-of_z}
use mir.Syntax.{w32}
use mir.Val.{SFits}
use Rattle.std.proofs.Common.{ap}
use Rattle.ax_meaning.specs.Acts.{Done}
use Rattle.ax_interp_acts.proofs.deciding.condition.Goals as goal

pub returns-in_err-begin_step : goal.returns-in_err-begin_step
returns-in_err-begin_step c = rw (err_is c.from_residual.result c.in_err-begin_step.field-0.0 c.from_residual.ensures.1, ← c.in_err-begin_step.ensures c.args.layout.now.program.now) refl

pub returns-in_err-n : goal.returns-in_err-n
returns-in_err-n c = rw (err_is c.from_residual-in_err-n.result c.in_err-n.field-0.0 c.from_residual-in_err-n.ensures.1, ← c.in_ok-begin_step.ensures c.args.layout.now.program.now, ← c.in_err-n.ensures c.args.steps) refl

pub returns : goal.returns
returns c = let f : SFits w32 c.in_ok-n.n = search rules in let h = simp to_z-of_z at c.holds.ensures in rw (← c.in_ok-begin_step.ensures c.args.layout.now.program.now, ← c.in_ok-n.ensures c.args.steps) (ap (λ b. Done b c.slot_value.new.state) h)
