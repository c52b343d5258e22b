use Rattle.std.proofs.Common.{◌<◌, ◌≤◌, ◌-◌, length, drop}
use Rattle.ax_parse_grammar.specs.ReadSources.{param}
use Rattle.ax_parse_statements.proofs.DeclarationTurns.{OnTo, behind}
use Rattle.ax_parse_statements.specs.HeadsFound.{listed_params}
use Rattle.ax_parse_statements.proofs.heads.listed_params.Given as goal

abbrev pub invariant-loop-alloc : goal.invariant-loop-alloc
invariant-loop-alloc l = (l.at < l.next) × (l.next ≤ length l.tokens) × OnTo (λ n. listed_params n (drop l.at l.tokens)) (behind param (drop l.next l.tokens)) l.found

abbrev pub decreases-loop-alloc : goal.decreases-loop-alloc
decreases-loop-alloc l = length l.tokens - l.next
