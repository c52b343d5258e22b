use Rattle.std.proofs.Common.{◌≡◌, ◌≤◌, length, drop}
use Rattle.ax_names_declared.specs.Denotations.{arrays_of}
use Rattle.ax_names_declared.proofs.declarators.arrays_of.Given as goal

abbrev pub invariant-loop-at : goal.invariant-loop-at
invariant-loop-at l = (l.at ≤ length l.sizes) × (l.ty ≡ arrays_of (drop l.at l.sizes) l.initial.ty)

abbrev pub decreases-loop-at : goal.decreases-loop-at
decreases-loop-at l = l.at
