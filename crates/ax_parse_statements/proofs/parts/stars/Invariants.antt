use Rattle.std.proofs.Common.{◌≡◌, ◌+◌, ◌-◌, ◌≤◌, length, drop}
use Rattle.ax_parse_grammar.specs.ReadDeclarations.{stars}
use Rattle.ax_parse_statements.proofs.parts.stars.Given as goal

abbrev pub invariant-loop-next : goal.invariant-loop-next
invariant-loop-next l = (l.at ≤ l.next) × (l.next ≤ length l.tokens) × (stars (drop l.at l.tokens) ≡ (l.next - l.at + (stars (drop l.next l.tokens)).0, (stars (drop l.next l.tokens)).1))

abbrev pub decreases-loop-next : goal.decreases-loop-next
decreases-loop-next l = length l.tokens - l.next
