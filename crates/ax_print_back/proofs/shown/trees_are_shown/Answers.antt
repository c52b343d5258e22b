use Rattle.ax_print_back.proofs.ShownTrees.{trees_show}
use Rattle.ax_print_back.proofs.shown.trees_are_shown.Goals as goal

pub returns : goal.returns
returns c = λ bytes tokens tree p k slot x spelled source words at h fits writable.
    trees_show bytes tokens c.stretches_are_copied.ensures spelled tree p k slot at h (c.holes_are_spelled.ensures h.old tree tokens h.path source) (c.atoms_are_parts.ensures h.there h.old slot.expr slot.atoms h.means) words x fits writable
