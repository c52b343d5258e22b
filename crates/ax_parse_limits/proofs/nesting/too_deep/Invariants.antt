use Rattle.std.proofs.Common.{◌≡◌, ◌≤◌, ◌-◌, length, drop, sum}
use Rattle.ax_parse_limits.specs.Nesting.{measure, deep_from, first_too_deep}
use Rattle.ax_parse_limits.proofs.nesting.too_deep.Given as goal

abbrev pub invariant-loop-at : goal.invariant-loop-at
invariant-loop-at l = (deep_from l.state (drop l.at l.tokens) ≡ first_too_deep l.tokens) × (l.state.total ≡ sum l.state.around) × (measure l.state ≤ 200) × (l.at ≤ length l.tokens)

abbrev pub decreases-loop-at : goal.decreases-loop-at
decreases-loop-at l = length l.tokens - l.at
