use Rattle.std.proofs.Common.{◌≡◌, drop, []}
use Rattle.ax_meaning.specs.Types.{sizes_after}
use Rattle.ax_interp_values.proofs.types.struct_sizes.Given as goal

abbrev pub invariant-loop-def : goal.invariant-loop-def
invariant-loop-def l = sizes_after l.sizes (drop l.def-index l.def-items) ≡ sizes_after [] l.def-items
