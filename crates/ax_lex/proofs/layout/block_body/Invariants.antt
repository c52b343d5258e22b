use Rattle.std.proofs.Common.{◌≡◌, ◌<◌, ◌+◌, ◌^◌, length, option_map}
use Rattle.ax_lex.specs.Fronts.{end_of}
use Rattle.ax_lex.proofs.layout.block_body.Given as goal

abbrev pub invariant-loop-s : goal.invariant-loop-s
invariant-loop-s l = (end_of l.initial.s ≡ option_map (λ j. l.n + j) (end_of l.s)) × (l.n + length l.s < 2 ^ 32)

abbrev pub decreases-loop-s : goal.decreases-loop-s
decreases-loop-s l = length l.s
