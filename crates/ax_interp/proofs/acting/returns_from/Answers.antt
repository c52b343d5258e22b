use Rattle.ax_meaning.specs.Acts.{give}
use Rattle.ax_interp_acts.specs.Sources.{source_of}
use Rattle.ax_interp.specs.Moves.{setting_of}
use Rattle.ax_interp.proofs.Kept.{give_keeps, from_source, done_ended}
use Rattle.ax_interp.proofs.acting.returns_from.Goals as goal

pub returned-requires : goal.returned-requires
returned-requires c =
    let r = setting_of c.args.context.now in
    let old = c.args.machine.now.state in
    let source = source_of r c.args.source in
    let objects = (old.store).objects in
    done_ended (give r source old) c.args.gaps.now c.in-Ok.cell old c.give.new.state c.in-Ok.ensures (give_keeps objects r source (from_source objects r c.args.source) old (λ i e. e)) c.requires
