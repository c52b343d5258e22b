use Rattle.std.proofs.Common.{◌≡◌, take}
use Rattle.ax_names_given.proofs.calls.copy_types.Given as goal

abbrev pub invariant-loop-ty : goal.invariant-loop-ty
invariant-loop-ty l = l.all ≡ take l.ty-index l.types
