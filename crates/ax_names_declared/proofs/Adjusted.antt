-- What a parameter's type counts as, at each kind of type.
use Rattle.std.proofs.Common.{◌≡◌, ℕ, refl}
use Rattle.ax_prog.specs.declared.Ty.{Ty}
use Rattle.ax_prog.specs.declared.Ty.TheVariants as ty
use Rattle.ax_prog.specs.declared.Ty.TheBlock.{shape-the_row-Ty-0, hidden-the_row-Ty-0}
use Rattle.ax_names_declared.specs.Heads.{adjusted}
use denote.Hole.Carrier

pub adjusted-Ptr : (u : Ty) → adjusted (ty.Ptr u) ≡ ty.Ptr u
unfolding shape-the_row-Ty-0 hidden-the_row-Ty-0 Carrier.hidden
adjusted-Ptr u = refl

pub adjusted-Array : (u : Ty) (n : ℕ) → adjusted (ty.Array u n) ≡ ty.Ptr u
unfolding shape-the_row-Ty-0 hidden-the_row-Ty-0 Carrier.hidden
adjusted-Array u n = refl

pub ruleset adjusted_types = (adjusted-Ptr, adjusted-Array)
