use Rattle.std.proofs.Common.{◌≡◌, ◌+◌, ◌-◌, ◌≤◌, length, drop}
use Rattle.ax_parse_limits.specs.Scan.{large, large_in}
use Rattle.ax_parse_limits.proofs.counts.large_in.Given as goal

abbrev pub invariant-loop-next : goal.invariant-loop-next
invariant-loop-next l = (large l.many l.count (drop l.next l.tokens) ≡ large_in l.many (drop l.at l.tokens)) × (l.next ≤ length l.tokens) × ((l.count).depth ≤ l.next) × ((l.count).nodes ≤ l.next)

abbrev pub decreases-loop-next : goal.decreases-loop-next
decreases-loop-next l = length l.tokens - l.next
