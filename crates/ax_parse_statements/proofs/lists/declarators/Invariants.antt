use Rattle.std.proofs.Common.{◌<◌, ◌≤◌, ◌-◌, false, length, drop}
use Rattle.ax_parse_grammar.specs.ReadDeclarations.{declarator}
use Rattle.ax_parse_statements.specs.DeclarationsFound.{declarators}
use Rattle.ax_parse_statements.proofs.DeclarationTurns.{OnTo, behind}
use Rattle.ax_parse_statements.proofs.lists.declarators.Given as goal

abbrev pub invariant-loop-alloc : goal.invariant-loop-alloc
invariant-loop-alloc l = (l.at < l.next) × (l.next ≤ length l.tokens) × OnTo (λ n. declarators n (drop l.at l.tokens)) (behind (declarator false) (drop l.next l.tokens)) l.found

abbrev pub decreases-loop-alloc : goal.decreases-loop-alloc
decreases-loop-alloc l = length l.tokens - l.next
