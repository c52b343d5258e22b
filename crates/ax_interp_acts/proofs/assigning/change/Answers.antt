use Rattle.std.proofs.Common.{refl, rules}
use Rattle.ax_interp_acts.proofs.Chains.{err_is}
use Rattle.std.proofs.lemmas.Int.{to_z-of_z}
use mir.Syntax.{w32}
use mir.Val.{SFits}
use Rattle.ax_interp_acts.proofs.assigning.change.Goals as goal

pub returns-in_err-begin_step : goal.returns-in_err-begin_step
returns-in_err-begin_step c = rw (err_is c.from_residual.result c.in_err-begin_step.field-0.0 c.from_residual.ensures.1, ← c.in_err-begin_step.ensures c.args.layout.now.program.now) refl

pub returns-in_err-at : goal.returns-in_err-at
returns-in_err-at c = rw (err_is c.from_residual-in_err-at.result c.in_err-at.field-0.0 c.from_residual-in_err-at.ensures.1, ← c.in_ok-begin_step.ensures c.args.layout.now.program.now, ← c.place_at.ensures, ← c.in_err-at.ensures c.begin_step.new.state) refl

pub returns-in_err-old : goal.returns-in_err-old
returns-in_err-old c = rw (err_is c.from_residual-in_err-old.result c.in_err-old.field-0.0 c.from_residual-in_err-old.ensures.1, ← c.in_ok-begin_step.ensures c.args.layout.now.program.now, ← c.place_at.ensures, ← c.in_ok-at.ensures c.begin_step.new.state, ← c.stored_at.ensures, ← c.in_err-old.ensures c.begin_step.new.state) refl

pub returns-in_err-n : goal.returns-in_err-n
returns-in_err-n c = rw (err_is c.from_residual-in_err-n.result c.in_err-n.field-0.0 c.from_residual-in_err-n.ensures.1, ← c.in_ok-begin_step.ensures c.args.layout.now.program.now, ← c.place_at.ensures, ← c.in_ok-at.ensures c.begin_step.new.state, ← c.stored_at.ensures, ← c.in_ok-old.ensures c.begin_step.new.state, ← c.in_err-n.ensures c.args.steps) refl

pub returns-in_err-cell : goal.returns-in_err-cell
returns-in_err-cell c = let f : SFits w32 c.in_ok-n.n = search rules in let h = simp to_z-of_z at c.changed.ensures in rw (err_is c.from_residual-in_err-cell.result c.in_err-cell.field-0.0 c.from_residual-in_err-cell.ensures.1, ← c.in_ok-begin_step.ensures c.args.layout.now.program.now, ← c.place_at.ensures, ← c.in_ok-at.ensures c.begin_step.new.state, ← c.stored_at.ensures, ← c.in_ok-old.ensures c.begin_step.new.state, ← c.in_ok-n.ensures c.args.steps, ← h, ← c.in_err-cell.ensures c.slot_value.new.state) refl

pub returns : goal.returns
returns c = let f : SFits w32 c.in_ok-n.n = search rules in let h = simp to_z-of_z at c.changed.ensures in rw (← c.in_ok-begin_step.ensures c.args.layout.now.program.now, ← c.place_at.ensures, ← c.in_ok-at.ensures c.begin_step.new.state, ← c.stored_at.ensures, ← c.in_ok-old.ensures c.begin_step.new.state, ← c.in_ok-n.ensures c.args.steps, ← h, ← c.in_ok-cell.ensures c.slot_value.new.state) c.put.ensures
