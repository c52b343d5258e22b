use Rattle.std.proofs.Common.{◌≤◌, ◌-◌, length, drop}
use Rattle.ax_parse_grammar.specs.Reading.{repeated}
use Rattle.ax_parse_grammar.specs.ReadSources.{ends_source, top}
use Rattle.ax_parse_statements.proofs.DeclarationTurns.{OnTo}
use Rattle.ax_parse.proofs.trees.parts.Given as goal

abbrev pub invariant-loop-at : goal.invariant-loop-at
invariant-loop-at l = (l.at ≤ length l.tokens) × OnTo (λ n. repeated ends_source top n l.tokens) (λ n. repeated ends_source top n (drop l.at l.tokens)) l.found

abbrev pub decreases-loop-at : goal.decreases-loop-at
decreases-loop-at l = length l.tokens - l.at
