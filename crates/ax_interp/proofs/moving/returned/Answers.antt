use Rattle.std.proofs.Common.{refl}
use Rattle.ax_interp.proofs.Calls.{reverse_last}
use Rattle.ax_interp.proofs.moving.returned.Goals as goal

pub returns-in-None-clause-next : goal.returns-in-None-clause-next
returns-in-None-clause-next c = rw c.in-None.ensures.0 refl

pub returns-in_ok-go_back-in-Some-clause-next : goal.returns-in_ok-go_back-in-Some-clause-next
returns-in_ok-go_back-in-Some-clause-next c = rw (c.in-Some.ensures, reverse_last c.pop.new.self c.in-Some.frame, c.in_ok-go_back-in-Some.ensures.back) refl
