use Rattle.std.proofs.Common.{take}
use Rattle.ax_proof.specs.Marks.{Marks}
use Rattle.ax_proof.proofs.uses.mark.Given as goal

abbrev pub invariant-loop-lit : goal.invariant-loop-lit
invariant-loop-lit l = Marks (take l.lit-index l.lit-items) l.initial.marks l.marks
