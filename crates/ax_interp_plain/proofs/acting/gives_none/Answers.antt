use Rattle.std.proofs.Common.{refl}
use Rattle.ax_interp_plain.proofs.acting.gives_none.Goals as goal

pub returns-in-Err : goal.returns-in-Err
returns-in-Err c = λ call. rw (← c.in-Err.ensures c.args.plain.now.layout.program.now) refl

pub returns-in-Ok : goal.returns-in-Ok
returns-in-Ok c = λ call. rw (← c.in-Ok.ensures c.args.plain.now.layout.program.now) refl
