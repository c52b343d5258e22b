use Rattle.std.proofs.Common.{◌≤◌, ◌-◌, length, drop}
use Rattle.ax_parse_grammar.specs.ReadDeclarations.{sizes}
use Rattle.ax_parse_statements.proofs.DeclarationTurns.{OnTo}
use Rattle.ax_parse_statements.proofs.lists.sizes.Given as goal

abbrev pub invariant-loop-found : goal.invariant-loop-found
invariant-loop-found l = (l.at ≤ l.next) × (l.next ≤ length l.tokens) × OnTo (λ n. sizes n l.leave (drop l.at l.tokens)) (λ n. sizes n l.may (drop l.next l.tokens)) l.found

abbrev pub decreases-loop-found : goal.decreases-loop-found
decreases-loop-found l = length l.tokens - l.next
