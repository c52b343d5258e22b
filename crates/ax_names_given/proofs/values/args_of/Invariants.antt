use Rattle.std.proofs.Common.{◌≡◌, length}
use Rattle.ax_names_rules.specs.ValueWalk.{args_of}
use Rattle.ax_names_given.proofs.Steps.{before}
use Rattle.ax_names_given.proofs.values.args_of.Given as goal

abbrev pub invariant-loop-types : goal.invariant-loop-types
invariant-loop-types l = before l.args (args_of l.types l.rest l.st) ≡ args_of l.params l.xs l.initial.st

abbrev pub decreases-loop-types : goal.decreases-loop-types
decreases-loop-types l = length l.types
