use Rattle.std.proofs.Common.{◌≡◌, ◌-◌, ◌≤◌, false, length, drop}
use Rattle.ax_parse_limits.specs.Scan.{scan}
use Rattle.ax_parse_limits.proofs.scan.scan.Given as goal

abbrev pub invariant-loop-at : goal.invariant-loop-at
invariant-loop-at l = (scan l.head l.shut (drop l.at l.tokens) ≡ scan false false l.tokens) × (l.at ≤ length l.tokens)

abbrev pub decreases-loop-at : goal.decreases-loop-at
decreases-loop-at l = length l.tokens - l.at
