use Rattle.std.proofs.Common.{refl, rules}
use Rattle.ax_interp_acts.proofs.Chains.{err_is}
use Rattle.std.proofs.lemmas.Int.{to_z-of_z}
use mir.Syntax.{w32}
use mir.Val.{SFits}
use Rattle.ax_interp_acts.proofs.assigning.slot_cell.Goals as goal

pub returns-in_err-n : goal.returns-in_err-n
returns-in_err-n c = λ steps. rw (err_is c.from_residual.result c.in_err-n.field-0.0 c.from_residual.ensures.1, ← c.in_err-n.ensures steps) refl

pub returns : goal.returns
returns c = λ steps. let f : SFits w32 c.in_ok-n.n = search rules in rw (← c.in_ok-n.ensures steps) (simp to_z-of_z)
