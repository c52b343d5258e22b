use Rattle.std.proofs.Common.{◌≡◌}
use Rattle.ax_names_declared.specs.Denotations.{pointers_to}
use Rattle.ax_names_declared.proofs.declarators.pointers_to.Given as goal

abbrev pub invariant-loop-star : goal.invariant-loop-star
invariant-loop-star l = l.ty ≡ pointers_to l._star l.initial.ty
