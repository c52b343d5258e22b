use Rattle.std.proofs.Common.{◌≡◌, length}
use Rattle.ax_parse_limits.specs.Calls.{first_of, call_in_part}
use Rattle.ax_parse_limits.proofs.calls.first_in_parts.Given as goal

abbrev pub invariant-loop-parts : goal.invariant-loop-parts
invariant-loop-parts l = first_of call_in_part l.parts ≡ first_of call_in_part l.initial.parts

abbrev pub decreases-loop-parts : goal.decreases-loop-parts
decreases-loop-parts l = length l.parts
