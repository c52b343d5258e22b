use Rattle.std.proofs.Common.{◌≡◌, suc, ◌+◌, ◌*◌, ◌≤◌}
use Rattle.ax_parse_limits.specs.Calls.{◌or◌, maybe, first_call, front}
use Rattle.ax_parse_limits.proofs.CallLayers.{size}
use Rattle.ax_parse_limits.proofs.call_expressions.+calls.Given as goal

abbrev pub decreases-behind_front : goal.decreases-behind_front
decreases-behind_front l = 2 * size l.tree.now

abbrev pub decreases-first_call : goal.decreases-first_call
decreases-first_call l = 2 * size l.tree.now + 1

abbrev pub invariant-first_call-loop-operand : goal.invariant-first_call-loop-operand
invariant-first_call-loop-operand l = ((maybe first_call (front l.node) or l.found) ≡ first_call l.tree) × (size l.node ≤ size l.tree)

abbrev pub decreases-first_call-loop-operand : goal.decreases-first_call-loop-operand
decreases-first_call-loop-operand l = size l.node
