use Rattle.std.proofs.Common.{◌∙◌, ap, false}
use Rattle.std.specs.Option.{unwrap_or}
use Rattle.std.proofs.lemmas.Option.{unwrap_or-slice_get}
use Rattle.ax_rank.proofs.kept.is_covered.Goals as goal

pub returns-in-None : goal.returns-in-None
returns-in-None c = ap (λ o. unwrap_or o false) c.in-None.ensures.value ∙ unwrap_or-slice_get c.args.run.now.covered c.args.place false

pub returns-in-Some : goal.returns-in-Some
returns-in-Some c = ap (λ o. unwrap_or o false) c.in-Some.ensures.value ∙ unwrap_or-slice_get c.args.run.now.covered c.args.place false
