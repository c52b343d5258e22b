use Rattle.ax_top.specs.Proving.{given}
use Rattle.ax_top.proofs.Proven.{refused-proves}
use Rattle.ax_top.proofs.proving.prove.Goals as goal

pub returns-in-Err : goal.returns-in-Err
returns-in-Err g c =
    refused-proves (g.S.Shelf.seen c.args.shelf.now) (g.S.Shelf.seen c.outcome_in.new.shelf) (g.S.Shelf.seen c.refuse.new.shelf) c.args.cnf.now
    c.args.proof.now c.args.budget c.refuse.result c.in-Err.halt c.in-Err.ensures.ends c.in-Err.ensures.same c.in-Err.ensures.counts c.refuse.ensures

pub returns-in-Ok : goal.returns-in-Ok
returns-in-Ok g c =
    given c.in-Ok.outcome (g.S.Shelf.seen c.outcome_in.new.shelf) c.in-Ok.ensures.ends c.in-Ok.ensures.same c.in-Ok.ensures.counts c.give.ensures
