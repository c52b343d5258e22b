use Rattle.std.proofs.Common.{◌≤◌, ◌-◌, length, reverse}
use Rattle.ax_parse_places.proofs.SourcesRun.{Still}
use Rattle.ax_parse_places.proofs.place.Given as goal

abbrev pub invariant-loop-at : goal.invariant-loop-at
invariant-loop-at l = (l.at ≤ length l.tokens) × Still l.tokens l.at (reverse l.stack)

abbrev pub decreases-loop-at : goal.decreases-loop-at
decreases-loop-at l = length l.tokens - l.at
