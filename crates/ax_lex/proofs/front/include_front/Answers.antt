use Rattle.ax_lex.proofs.Firsts.{stray_hash}
use Rattle.ax_lex.proofs.front.include_front.Goals as goal

pub returns-in-None-clause-fault : goal.returns-in-None-clause-fault
returns-in-None-clause-fault c count = stray_hash c.args.s.now c.args.at count c.args.fresh c.requires.some c.requires.hash c.in-None.ensures.none
