use Rattle.std.proofs.Common.{◌∙◌, ap}
use Rattle.ax_sat.specs.Base.{BaseState}
use Rattle.ax_sat.proofs.Watches.{over_along, all_over, lawful_along}
use Rattle.ax_sat.proofs.base.Base.ask.Goals as goal

pub search-requires-clause-over : goal.search-requires-clause-over
search-requires-clause-over c = rw c.as_slice.ensures.value c.self.invariant.over

pub search-requires-clause-assumptions : goal.search-requires-clause-assumptions
search-requires-clause-assumptions c = over_along _ _ c.args.assumptions.now (ap (λ (x : BaseState). x.vars) c.self.view_is) c.requires.assumptions

pub search-requires-clause-lines : goal.search-requires-clause-lines
search-requires-clause-lines c = all_over _ _ c.args.log.now.lines.items (ap (λ (x : BaseState). x.vars) c.self.view_is) c.requires.lines

pub search-requires-clause-lawful : goal.search-requires-clause-lawful
search-requires-clause-lawful c =
    lawful_along _ _ c.args.assumptions.now c.args.log.now.lines.items (c.as_slice.ensures.value ∙ ap (λ (x : BaseState). x.clauses) c.self.view_is) c.requires.lawful
