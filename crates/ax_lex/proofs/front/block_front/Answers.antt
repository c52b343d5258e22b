use Rattle.std.proofs.Common.{sym, ap, ◌∙◌, arith}
use Rattle.ax_lex.specs.Fronts.{end_of}
use Rattle.ax_lex.proofs.Comments.{block_is, block_open}
use Rattle.ax_lex.proofs.front.block_front.Goals as goal

pub returns-in-Some-clause-found : goal.returns-in-Some-clause-found
returns-in-Some-clause-found c fresh = block_is c.args.s.now c.in-Some.n fresh (omega arith) c.requires.opened.1 c.requires.opened.2 (sym (ap end_of c.past.ensures) ∙ sym c.block_body.ensures.value ∙ c.in-Some.is)

pub returns-in-None-clause-fault : goal.returns-in-None-clause-fault
returns-in-None-clause-fault c fresh count = block_open c.args.s.now c.args.at count fresh (omega arith) c.requires.opened.1 c.requires.opened.2 (sym (ap end_of c.past.ensures) ∙ sym c.block_body.ensures.value ∙ c.in-None.is)
