use Rattle.std.proofs.Common.{◌≡◌, take}
use Rattle.ax_prog.proofs.copy.+copy_statement.Given as goal

abbrev pub invariant-copy_stmts-loop-stmt : goal.invariant-copy_stmts-loop-stmt
invariant-copy_stmts-loop-stmt l = l.all ≡ take l.stmt-index l.list
