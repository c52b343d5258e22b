use Rattle.std.proofs.Common.{◌+◌, ◌-◌, ◌*◌, ◌≤◌, length, drop}
use Rattle.ax_parse_grammar.specs.ReadStatements.{items}
use Rattle.ax_parse_statements.proofs.DeclarationTurns.{OnTo}
use Rattle.ax_parse_statements.proofs.statements.+statements.Given as goal

abbrev pub decreases-if_at : goal.decreases-if_at
decreases-if_at l = 5 * (length l.tokens.now - l.at)

abbrev pub decreases-while_at : goal.decreases-while_at
decreases-while_at l = 5 * (length l.tokens.now - l.at)

abbrev pub decreases-do_at : goal.decreases-do_at
decreases-do_at l = 5 * (length l.tokens.now - l.at)

abbrev pub decreases-for_at : goal.decreases-for_at
decreases-for_at l = 5 * (length l.tokens.now - l.at)

abbrev pub decreases-block : goal.decreases-block
decreases-block l = 5 * (length l.tokens.now - l.at)

abbrev pub decreases-otherwise : goal.decreases-otherwise
decreases-otherwise l = 5 * (length l.tokens.now - l.at)

abbrev pub decreases-begun : goal.decreases-begun
decreases-begun l = 5 * (length l.tokens.now - l.at) + 1

abbrev pub decreases-statement : goal.decreases-statement
decreases-statement l = 5 * (length l.tokens.now - l.at) + 2

abbrev pub decreases-boxed : goal.decreases-boxed
decreases-boxed l = 5 * (length l.tokens.now - l.at) + 3

abbrev pub decreases-looped : goal.decreases-looped
decreases-looped l = 5 * (length l.tokens.now - l.at) + 4

abbrev pub decreases-item : goal.decreases-item
decreases-item l = 5 * (length l.tokens.now - l.at) + 3

abbrev pub decreases-items : goal.decreases-items
decreases-items l = 5 * (length l.tokens.now - l.at) + 4

abbrev pub invariant-items-loop-alloc : goal.invariant-items-loop-alloc
invariant-items-loop-alloc l = (l.at ≤ l.next) × (l.next ≤ length l.tokens) × OnTo (λ n. items n (drop l.at l.tokens)) (λ n. items n (drop l.next l.tokens)) l.found

abbrev pub decreases-items-loop-alloc : goal.decreases-items-loop-alloc
decreases-items-loop-alloc l = length l.tokens - l.next
