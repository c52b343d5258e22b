use Rattle.std.proofs.Common.{◌≡◌, take, map}
use Rattle.ax_space.specs.declared.Mark.TheVariants as mark
use Rattle.ax_space.proofs.positions.marks_of.Given as goal

abbrev pub invariant-loop-label : goal.invariant-loop-label
invariant-loop-label l = l.all ≡ map (λ m. mark.Label m) (take l.label-index l.labels)
