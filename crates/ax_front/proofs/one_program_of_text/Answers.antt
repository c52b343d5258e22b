use Rattle.ax_front.proofs.Refusals.{one_program_of_text as one}
use Rattle.ax_front.proofs.one_program_of_text.Goals as goal

pub returns : goal.returns
returns c = λ bytes p q a b. one bytes p q a b
