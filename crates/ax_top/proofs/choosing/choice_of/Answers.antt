use Rattle.std.proofs.Common.{sym}
use Rattle.std.proofs.lemmas.List.{length-map}
use Rattle.ax_top.proofs.ByName.{chosen-by}
use Rattle.ax_top.proofs.choosing.choice_of.Goals as goal

pub returns-in-Some : goal.returns-in-Some
returns-in-Some g c =
    rw c.in-Top.is
    (chosen-by _ c.as_str.result.now c.in-Some.at (sym c.in-Some.ensures.first) (rw (length-map c.args.rankers.now _) c.in-Some.ensures.within)
    c.args.program.now c.args.steps c.args.tests.now c.in-Top.count c.in-Top.formula c.as_str.ensures.value c.choose_in.result c.choose_in.ensures.chosen)
