use Rattle.ax_proof.proofs.Checks.{below_same}
use Rattle.ax_proof.proofs.lines.has_rup.Goals as goal

pub propagate-conflict-requires : goal.propagate-conflict-requires
propagate-conflict-requires c = below_same _ _ _ c.deny.ensures.size c.requires.below
