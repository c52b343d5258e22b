use Rattle.std.proofs.Common.{◌≡◌, ◌≤◌, ◌++◌, length, drop, reverse}
use Rattle.ax_parse_places.proofs.stack.push.Given as goal

abbrev pub invariant-loop-at : goal.invariant-loop-at
invariant-loop-at l = (l.at ≤ length l.parts) × (reverse l.stack ≡ drop l.at l.parts ++ reverse l.initial.stack)

abbrev pub decreases-loop-at : goal.decreases-loop-at
decreases-loop-at l = l.at
