use Rattle.ax_print_holes.proofs.Bodies.{respelled}
use Rattle.ax_print_holes.proofs.holes_are_spelled.Goals as goal

pub returns : goal.returns
returns c = λ old tree tokens h p. respelled old tree tokens h p
