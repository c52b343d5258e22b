use Rattle.std.proofs.Common.{◌<◌, ◌≤◌, ◌-◌, length, drop}
use Rattle.ax_parse_grammar.specs.ReadDeclarations.{numbers}
use Rattle.ax_parse_statements.proofs.DeclarationTurns.{OnTo}
use Rattle.ax_parse_statements.proofs.ListTurns.{further}
use Rattle.ax_parse_statements.proofs.lists.numbers.Given as goal

abbrev pub invariant-loop-found : goal.invariant-loop-found
invariant-loop-found l = (l.at < l.next) × (l.next ≤ length l.tokens) × OnTo (λ n. numbers n (drop l.at l.tokens)) (further (drop l.next l.tokens)) l.found

abbrev pub decreases-loop-found : goal.decreases-loop-found
decreases-loop-found l = length l.tokens - l.next
