use Rattle.std.proofs.lemmas.List.{length-map}
use Rattle.ax_top.proofs.ByName.{ranked-by}
use Rattle.ax_top.proofs.telling.rank.Goals as goal

pub returns-in-Ok-judge_files-clause-ends : goal.returns-in-Ok-judge_files-clause-ends
returns-in-Ok-judge_files-clause-ends g c =
    ranked-by _ c.args.name.now c.in-Ok.at c.in-Ok.ensures.first (rw (length-map c.args.rankers.now _) c.in-Ok.ensures.within)
    _ _ c.args.source.now c.args.tests.now _ _ _ c.args.steps c.rank_told.result c.in-Ok-judge_files.ensures.judged c.rank_told.ensures
