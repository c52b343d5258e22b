use Rattle.std.proofs.Common.{◌≡◌, ◌-◌, ◌≤◌, length, drop}
use Rattle.ax_names_declared.specs.Alike.{same_types}
use Rattle.ax_names_declared.proofs.agreement.same_types.Given as goal

abbrev pub invariant-loop-at : goal.invariant-loop-at
invariant-loop-at l = (l.at ≤ length l.a) × (length l.a ≡ length l.b) × (same_types (drop l.at l.a) (drop l.at l.b) ≡ same_types l.a l.b)

abbrev pub decreases-loop-at : goal.decreases-loop-at
decreases-loop-at l = length l.a - l.at
