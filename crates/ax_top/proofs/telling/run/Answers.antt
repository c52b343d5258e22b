use Rattle.ax_top.proofs.Told.{run-from}
use Rattle.ax_top.proofs.telling.run.Goals as goal

pub returns-in-Ok-clause-ends : goal.returns-in-Ok-clause-ends
returns-in-Ok-clause-ends g c =
    run-from (g.S.Shelf.seen c.args.shelf.now) (g.S.Shelf.seen c.judge_files.new.shelf) c.args.source.now c.args.tests.now _ _ _ c.args.steps c.run_told.result
    c.in-Ok.ensures.judged c.run_told.ensures
