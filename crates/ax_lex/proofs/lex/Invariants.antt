use Rattle.std.proofs.Common.{◌-◌, length}
use Rattle.ax_lex.proofs.Turns.{SoFar}
use Rattle.ax_lex.proofs.lex.Given as goal

abbrev pub invariant-loop-at : goal.invariant-loop-at
invariant-loop-at l = SoFar l.bytes l.at l.fresh l.tokens

abbrev pub decreases-loop-at : goal.decreases-loop-at
decreases-loop-at l = length l.bytes - l.at
