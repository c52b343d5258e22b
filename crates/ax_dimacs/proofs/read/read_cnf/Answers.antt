use Rattle.ax_dimacs.specs.Words.{left}
use Rattle.ax_dimacs.proofs.Variables.{read-over}
use Rattle.ax_dimacs.proofs.read.read_cnf.Goals as goal

pub returns-clause-over : goal.returns-clause-over
returns-clause-over c = read-over c.in-Ok.vars (left c.take_head.new.words) c.in_ok-clauses.clauses.items c.in_ok-clauses.ensures.clauses
