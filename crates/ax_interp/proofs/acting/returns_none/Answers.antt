use Rattle.std.proofs.Common.{refl}
use Rattle.ax_meaning.specs.Acts.{step}
use Rattle.ax_interp.specs.Moves.{setting_of}
use Rattle.ax_interp.proofs.Kept.{step_keeps, done_ended}
use Rattle.ax_interp.proofs.acting.returns_none.Goals as goal

pub returned-requires : goal.returned-requires
returned-requires c =
    let r = setting_of c.args.context.now in
    let old = c.args.machine.now.state in
    done_ended (step r old) c.args.gaps.now tt old c.begin_step.new.state (c.in-Ok.ensures c.args.context.now.layout.program.now) (step_keeps (old.store).objects r old (λ i e. e)) c.requires

pub returns-in-Err-clause-next : goal.returns-in-Err-clause-next
returns-in-Err-clause-next c = rw (← c.in-Err.ensures c.args.context.now.layout.program.now) refl

pub returns-in-Ok-clause-next : goal.returns-in-Ok-clause-next
returns-in-Ok-clause-next c = rw (← c.in-Ok.ensures c.args.context.now.layout.program.now) c.returned.ensures.next
