use Rattle.ax_lex.proofs.Firsts.{stray_quote}
use Rattle.ax_lex.proofs.front.format_front.Goals as goal

pub returns-in-Some-clause-found : goal.returns-in-Some-clause-found
returns-in-Some-clause-found c fresh = c.in-Some.ensures.found

pub returns-in-None-clause-fault : goal.returns-in-None-clause-fault
returns-in-None-clause-fault c fresh count = stray_quote c.args.s.now c.args.at count fresh c.requires.some c.requires.quote c.in-None.ensures.none
