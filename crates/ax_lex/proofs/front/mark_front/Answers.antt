use Rattle.ax_lex.proofs.Firsts.{stray_mark}
use Rattle.ax_lex.proofs.front.mark_front.Goals as goal

pub returns-in-Some-clause-found : goal.returns-in-Some-clause-found
returns-in-Some-clause-found c fresh = c.in-Some.ensures.found

pub returns-in-None-clause-fault : goal.returns-in-None-clause-fault
returns-in-None-clause-fault c fresh count = stray_mark c.args.s.now c.args.at count fresh c.requires.some c.requires.no_space c.requires.no_word c.requires.no_include c.requires.no_format c.in-None.ensures.none
