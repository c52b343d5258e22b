use Rattle.std.proofs.Common.{◌≡◌, map, take}
use Rattle.ax_names_rules.specs.Declarations.{signed_value}
use Rattle.ax_names.proofs.initials.numbers.Given as goal

abbrev pub invariant-loop-x : goal.invariant-loop-x
invariant-loop-x l = l.all ≡ map signed_value (take l.x-index l.xs)
