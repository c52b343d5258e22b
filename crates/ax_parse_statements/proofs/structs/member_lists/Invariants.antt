use Rattle.std.proofs.Common.{◌≤◌, ◌-◌, length, drop}
use Rattle.ax_parse_statements.proofs.DeclarationTurns.{OnTo}
use Rattle.ax_parse_statements.specs.HeadsFound.{member_lists}
use Rattle.ax_parse_statements.proofs.structs.member_lists.Given as goal

abbrev pub invariant-loop-alloc : goal.invariant-loop-alloc
invariant-loop-alloc l = (l.at ≤ l.next) × (l.next ≤ length l.tokens) × OnTo (λ n. member_lists n (drop l.at l.tokens)) (λ n. member_lists n (drop l.next l.tokens)) l.found

abbrev pub decreases-loop-alloc : goal.decreases-loop-alloc
decreases-loop-alloc l = length l.tokens - l.next
