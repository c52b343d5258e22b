use Rattle.ax_repair_laws.proofs.Writable.{trees-writable}
use Rattle.ax_repair_laws.proofs.patches_are_writable.Goals as goal

pub returns : goal.returns
returns c = λ source program ids sets grow patch text chosen off is.
    trees-writable program sets grow off (c.slots_are_writable.ensures source text.tokens text.tree program text.spelled text.parsed text.meant) ids patch.trees chosen.candidates is
