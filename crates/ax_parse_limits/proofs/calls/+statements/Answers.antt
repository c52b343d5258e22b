use Rattle.std.proofs.Common.{◌≡◌}
use Rattle.ax_parse_limits.proofs.CallLayers.{call_in_stmt-Block, call_in_stmt-If, call_in_stmt-IfElse, call_in_stmt-While, call_in_stmt-Do, call_in_stmt-For}
use Rattle.ax_parse_limits.proofs.calls.+statements.Goals as goal

pub call_in_stmt-returns-in-Block : goal.call_in_stmt-returns-in-Block
call_in_stmt-returns-in-Block t c = rw (c.in-Block.is, call_in_stmt-Block, ← c.as_slice.ensures) c.first_in_stmts.ensures

pub call_in_stmt-returns-in-If : goal.call_in_stmt-returns-in-If
call_in_stmt-returns-in-If t c = rw (c.in-If.is, call_in_stmt-If, ← c.get.ensures, ← c.first_call.ensures, ← c.call_in_stmt.ensures) c.or.ensures

pub call_in_stmt-returns-in-IfElse : goal.call_in_stmt-returns-in-IfElse
call_in_stmt-returns-in-IfElse t c = rw (c.in-IfElse.is, call_in_stmt-IfElse, ← c.get-in-IfElse.ensures, ← c.get-in-IfElse-2.ensures, ← c.first_call-in-IfElse.ensures, ← c.call_in_stmt-in-IfElse.ensures, ← c.call_in_stmt-in-IfElse-2.ensures, ← c.or-branches.ensures) c.or-in-IfElse.ensures

pub call_in_stmt-returns-in-While : goal.call_in_stmt-returns-in-While
call_in_stmt-returns-in-While t c = rw (c.in-While.is, call_in_stmt-While, ← c.get-in-While.ensures, ← c.first_call-in-While.ensures, ← c.call_in_stmt-in-While.ensures) c.or-in-While.ensures

pub call_in_stmt-returns-in-Do : goal.call_in_stmt-returns-in-Do
call_in_stmt-returns-in-Do t c = rw (c.in-Do.is, call_in_stmt-Do, ← c.get-in-Do.ensures, ← c.first_call-in-Do.ensures, ← c.call_in_stmt-in-Do.ensures) c.or-in-Do.ensures

pub call_in_stmt-returns-in-For : goal.call_in_stmt-returns-in-For
call_in_stmt-returns-in-For t c = rw (c.in-For.is, call_in_stmt-For, ← c.get-in-For.ensures, ← c.call_in_opening.ensures, ← c.maybe_first.ensures, ← c.maybe_simple.ensures, ← c.call_in_stmt-in-For.ensures, ← c.or-step_or_body.ensures, ← c.or-in-For.ensures) c.or-in-For-2.ensures
