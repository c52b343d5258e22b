use Rattle.std.proofs.Common.{◌≡◌, drop}
use Rattle.ax_print.specs.Text.{first_span}
use Rattle.ax_print.proofs.leaves.span_of.Given as goal

abbrev pub invariant-loop-part : goal.invariant-loop-part
invariant-loop-part l = first_span l.atom (drop l.part-index l.atoms) ≡ first_span l.atom l.atoms
