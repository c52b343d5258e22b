use Rattle.std.proofs.Common.{sym, ◌∙◌}
use Rattle.ax_print.proofs.Same.{atom_eq-is}
use Rattle.ax_print.proofs.Atoms.{first_span-found, first_span-passed}
use Rattle.ax_print.proofs.leaves.span_of.Goals as goal

pub returns-then-same_atom : goal.returns-then-same_atom
returns-then-same_atom c =
    let equal = atom_eq-is _ _ _ c.same_atom.ensures ∙ c.if-same_atom.true in
    sym (first_span-found _ _ _ c.part-item.result c.loop-part-test.true c.part-item.is equal) ∙ c.loop-part.invariant

pub loop-part-preserved : goal.loop-part-preserved
loop-part-preserved c =
    let other = atom_eq-is _ _ _ c.same_atom.ensures ∙ c.if-same_atom.false in
    sym (first_span-passed _ _ _ c.part-item.result c.loop-part-test.true c.part-item.is other) ∙ c.loop-part.invariant
