use Rattle.std.proofs.Common.{◌≡◌, length, map}
use Rattle.ax_lex.specs.Tokens.{lookup}
use Rattle.ax_lex.proofs.tables.lookup.Given as goal

abbrev pub invariant-loop-table : goal.invariant-loop-table
invariant-loop-table g l = lookup (map (λ p. (p.0.now, p.1)) l.table) l.word ≡ lookup (map (λ p. (p.0.now, p.1)) l.initial.table) l.word

abbrev pub decreases-loop-table : goal.decreases-loop-table
decreases-loop-table g l = length l.table
