use Rattle.std.proofs.Common.{◌≡◌, length}
use Rattle.ax_parse_limits.specs.Calls.{first_of, first_call}
use Rattle.ax_parse_limits.proofs.call_expressions.first_in_args.Given as goal

abbrev pub invariant-loop-args : goal.invariant-loop-args
invariant-loop-args l = first_of first_call l.args ≡ first_of first_call l.initial.args

abbrev pub decreases-loop-args : goal.decreases-loop-args
decreases-loop-args l = length l.args
