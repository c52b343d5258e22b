use Rattle.std.proofs.Common.{◌≡◌, ◌+◌, ◌≤◌, length, drop}
use Rattle.ax_parse_grammar.specs.Reading.{past}
use Rattle.ax_parse_statements.proofs.terminals.passes.Given as goal

abbrev pub invariant-loop-terminal : goal.invariant-loop-terminal
invariant-loop-terminal l = (l.next ≡ l.at + l.terminal-index) × (l.next ≤ length l.tokens) × (past l.what (drop l.at l.tokens) ≡ past (drop l.terminal-index l.what) (drop l.next l.tokens))
