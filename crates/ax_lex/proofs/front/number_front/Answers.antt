use Rattle.std.proofs.Common.{sym, subst}
use Rattle.ax_lex.specs.declared.numbers.NumberFault.{NumberFault}
use Rattle.ax_lex.specs.declared.LexFault.{LexFault}
use Rattle.ax_lex.specs.Fronts.{NumberIs}
use Rattle.ax_lex.specs.Faults.{Stuck}
use Rattle.ax_lex.proofs.Firsts.{stuck_large, stuck_bad}
use Rattle.ax_lex.proofs.front.number_front.Goals as goal

pub returns-in-Ok-clause-found : goal.returns-in-Ok-clause-found
returns-in-Ok-clause-found c fresh = c.in-Ok.ensures.found

pub returns-in-Err-Large-clause-fault : goal.returns-in-Err-Large-clause-fault
returns-in-Err-Large-clause-fault c fresh = stuck_large c.args.s.now c.args.at c.args.count fresh (subst (λ (e : NumberFault). NumberIs e c.args.s.now) c.in-Err-Large.field-0-is c.in-Err-Large.ensures.fault)

pub returns-in-Err-Bad-clause-fault : goal.returns-in-Err-Bad-clause-fault
returns-in-Err-Bad-clause-fault c fresh = subst (λ (e : LexFault). Stuck c.args.at fresh c.args.count c.args.s.now e) (sym c.late.ensures) (stuck_bad c.args.s.now c.args.at c.args.count c.in-Err-Bad.n fresh (subst (λ (e : NumberFault). NumberIs e c.args.s.now) c.in-Err-Bad.field-0-is c.in-Err-Bad.ensures.fault))
