use Rattle.std.proofs.Common.{refl}
use Rattle.ax_interp_acts.proofs.Chains.{err_is}
use Rattle.ax_interp_acts.proofs.assigning.keep.Goals as goal

pub returns-in_err-at : goal.returns-in_err-at
returns-in_err-at c = λ steps. rw (err_is c.from_residual.result c.in_err-at.field-0.0 c.from_residual.ensures.1, ← c.named.ensures, ← c.in_err-at.ensures c.args.state.now) refl

pub returns-in_err-cell : goal.returns-in_err-cell
returns-in_err-cell c = λ steps. rw (err_is c.from_residual-in_err-cell.result c.in_err-cell.field-0.0 c.from_residual-in_err-cell.ensures.1, ← c.named.ensures, ← c.in_ok-at.ensures c.args.state.now, ← c.in_err-cell.ensures steps) refl

pub returns : goal.returns
returns c = λ steps. rw (← c.named.ensures, ← c.in_ok-at.ensures c.args.state.now, ← c.in_ok-cell.ensures steps) c.put.ensures
