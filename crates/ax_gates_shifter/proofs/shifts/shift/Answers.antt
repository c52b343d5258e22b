use Rattle.ax_gates_shifter.proofs.Laws.{shift_law, shift_extends}
use Rattle.ax_gates_shifter.proofs.shifts.shift.Goals as goal

pub returns-clause-means : goal.returns-clause-means
returns-clause-means c = λ v e h. shift_law v c.args.cnf.now.vars c.args.a.now c.args.n.now c.args.right c.requires.word c.requires.count e h

pub returns-clause-extends : goal.returns-clause-extends
returns-clause-extends c = λ low oa ok. shift_extends c.args.cnf.now.vars c.args.a.now c.args.n.now c.args.right low oa ok
