use Rattle.std.proofs.Common.{◌≡◌, reverse, length}
use Rattle.ax_parse_places.specs.Turns.{step}
use Rattle.ax_parse_places.proofs.turns.step.Given as goal

abbrev pub invariant-loop-symbol : goal.invariant-loop-symbol
invariant-loop-symbol l = step (reverse l.stack) l.kind ≡ step (reverse l.initial.stack) l.kind

abbrev pub decreases-loop-symbol : goal.decreases-loop-symbol
decreases-loop-symbol l = length l.stack
