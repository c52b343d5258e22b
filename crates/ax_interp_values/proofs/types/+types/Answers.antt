use Rattle.ax_meaning.proofs.Trees.{target_of-Plus, target_of-Minus}
use Rattle.ax_interp_values.proofs.types.+types.Goals as goal

pub target_type-returns-in-Plus : goal.target_type-returns-in-Plus
target_type-returns-in-Plus t c = rw (c.in-Plus.is, target_of-Plus, ← c.get-in-Plus.ensures) c.target_type.ensures

pub target_type-returns-in-Minus : goal.target_type-returns-in-Minus
target_type-returns-in-Minus t c = rw (c.in-Minus.is, target_of-Minus, ← c.get-in-Minus.ensures) c.target_type-in-Minus.ensures
