use Rattle.ax_repair_laws.proofs.Staying.{own-at-0}
use Rattle.ax_repair_laws.proofs.stays_at_cost_0.Goals as goal

pub returns : goal.returns
returns c = λ source program ids sets grow patch chosen costs.
    c.own_trees_stay.ensures source program ids patch.trees (own-at-0 program sets grow ids patch.trees chosen.candidates costs)
