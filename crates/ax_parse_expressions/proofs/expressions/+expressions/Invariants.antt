use Rattle.std.proofs.Common.{◌+◌, ◌-◌, ◌*◌, length}
use Rattle.ax_parse_expressions.proofs.Turns.{Climbed, Linked, Listed}
use Rattle.ax_parse_expressions.proofs.expressions.+expressions.Given as goal

abbrev pub decreases-primary : goal.decreases-primary
decreases-primary l = 10 * (length l.tokens.now - l.at) + 1

abbrev pub decreases-postfix : goal.decreases-postfix
decreases-postfix l = 10 * (length l.tokens.now - l.at) + 2

abbrev pub decreases-unary : goal.decreases-unary
decreases-unary l = 10 * (length l.tokens.now - l.at) + 3

abbrev pub decreases-climb : goal.decreases-climb
decreases-climb l = 10 * (length l.tokens.now - l.at) + 4

abbrev pub decreases-whole : goal.decreases-whole
decreases-whole l = 10 * (length l.tokens.now - l.at) + 5

abbrev pub decreases-whole_until : goal.decreases-whole_until
decreases-whole_until l = 10 * (length l.tokens.now - l.at) + 6

abbrev pub decreases-many : goal.decreases-many
decreases-many l = 10 * (length l.tokens.now - l.at) + 6

abbrev pub decreases-branches : goal.decreases-branches
decreases-branches l = 10 * (length l.tokens.now - l.at) + 7

abbrev pub decreases-index : goal.decreases-index
decreases-index l = 10 * (length l.tokens.now - l.at) + 7

abbrev pub decreases-args : goal.decreases-args
decreases-args l = 10 * (length l.tokens.now - l.at) + 7

abbrev pub decreases-call : goal.decreases-call
decreases-call l = 10 * (length l.tokens.now - l.at) + 8

abbrev pub decreases-link : goal.decreases-link
decreases-link l = 10 * (length l.tokens.now - l.at) + 9

abbrev pub invariant-climb-loop-op : goal.invariant-climb-loop-op
invariant-climb-loop-op l = Climbed l.tokens l.at l.min l.left l.next

abbrev pub decreases-climb-loop-op : goal.decreases-climb-loop-op
decreases-climb-loop-op l = length l.tokens - l.next

abbrev pub invariant-postfix-loop-mark : goal.invariant-postfix-loop-mark
invariant-postfix-loop-mark l = Linked l.tokens l.at l.found l.called l.next

abbrev pub decreases-postfix-loop-mark : goal.decreases-postfix-loop-mark
decreases-postfix-loop-mark l = length l.tokens - l.next

abbrev pub invariant-many-loop-alloc : goal.invariant-many-loop-alloc
invariant-many-loop-alloc l = Listed l.tokens l.at l.found l.next

abbrev pub decreases-many-loop-alloc : goal.decreases-many-loop-alloc
decreases-many-loop-alloc l = length l.tokens - l.next
