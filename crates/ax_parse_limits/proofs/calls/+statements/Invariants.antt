use Rattle.std.proofs.Common.{◌≡◌, drop}
use Rattle.ax_parse_limits.specs.Calls.{first_of, call_in_stmt}
use Rattle.ax_parse_limits.proofs.calls.+statements.Given as goal

abbrev pub invariant-first_in_stmts-loop-stmt : goal.invariant-first_in_stmts-loop-stmt
invariant-first_in_stmts-loop-stmt l = first_of call_in_stmt (drop l.stmt-index l.items) ≡ first_of call_in_stmt l.items
