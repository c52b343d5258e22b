use Rattle.std.proofs.Common.{arith}
use Rattle.ax_suite.proofs.Turns.{array-err, array-long, array-ok}
use Rattle.ax_suite.proofs.suite.read_array.Goals as goal

pub returns-in-Ok : goal.returns-in-Ok
returns-in-Ok c = array-ok c.args.values.now _ (omega arith) c.in-Ok.ensures

pub returns-in-Err : goal.returns-in-Err
returns-in-Err c = array-err c.args.values.now _ (omega arith) c.in-Err.ensures

pub returns-then-values-gt256 : goal.returns-then-values-gt256
returns-then-values-gt256 c = array-long c.args.values.now c.if-values-gt256.true
