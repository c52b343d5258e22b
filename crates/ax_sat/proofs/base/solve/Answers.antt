use Rattle.ax_sat.proofs.Watches.{all_over, lawful_along}
use Rattle.ax_sat.proofs.base.solve.Goals as goal

pub ask-requires-clause-lines : goal.ask-requires-clause-lines
ask-requires-clause-lines c = all_over _ _ c.args.log.now.lines.items c.in_ok-base.ensures.vars c.requires.lines

pub ask-requires-clause-lawful : goal.ask-requires-clause-lawful
ask-requires-clause-lawful c = lawful_along _ _ c.args.assumptions.now c.args.log.now.lines.items c.in_ok-base.ensures.clauses c.requires.lawful
