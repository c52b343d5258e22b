use Rattle.std.proofs.Common.{◌≡◌, ◌≤◌, length}
use Rattle.ax_lex.specs.Tokens.{value}
use Rattle.ax_lex.proofs.numbers.value_of.Given as goal

abbrev pub invariant-loop-s : goal.invariant-loop-s
invariant-loop-s l = (value l.base l.n l.s ≡ value l.base 0 l.initial.s) × (l.n ≤ 2147483647)

abbrev pub decreases-loop-s : goal.decreases-loop-s
decreases-loop-s l = length l.s
