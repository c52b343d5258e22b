use Rattle.std.proofs.Common.{◌≡◌, length}
use Rattle.ax_parse_limits.specs.Calls.{first_of, call_in_declared}
use Rattle.ax_parse_limits.proofs.calls.first_in_declared.Given as goal

abbrev pub invariant-loop-items : goal.invariant-loop-items
invariant-loop-items l = first_of call_in_declared l.items ≡ first_of call_in_declared l.initial.items

abbrev pub decreases-loop-items : goal.decreases-loop-items
decreases-loop-items l = length l.items
