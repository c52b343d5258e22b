use Rattle.ax_proof.proofs.Tables.{all_below, consistent}
use Rattle.ax_proof.proofs.trail.Trail.lits.Goals as goal

pub returns-clause-below : goal.returns-clause-below
returns-clause-below c = rw (← c.self.view_is) (all_below _ _ c.self.invariant.table)

pub returns-clause-consistent : goal.returns-clause-consistent
returns-clause-consistent c = rw (← c.self.view_is) (consistent _ _ c.self.invariant.table)
