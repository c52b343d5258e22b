use Rattle.ax_proof.proofs.Tables.{says}
use Rattle.ax_proof.proofs.trail.Trail.truth.Goals as goal

pub returns : goal.returns
returns c = rw (← c.self.view_is) (says _ _ c.args.lit c.self.invariant.table c.signed.result (cc))
