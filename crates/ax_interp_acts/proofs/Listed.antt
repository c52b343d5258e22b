-- The cells of a list, one after another.
use Rattle.std.proofs.Common.{◌≡◌, refl, ℕ, zero, suc, List, [], ◌∷◌, drop}
use Rattle.std.specs.Prelude.{ℤ, slice_get}
use Rattle.ax_meaning.specs.declared.Cell.TheVariants.{Int}
use Rattle.ax_meaning.specs.Acts.{listed}
use Rattle.ax_interp_acts.specs.Sources.{int_or_zero}

pub listed-drop : (n at : ℕ) (zs : List ℤ) → listed (suc n) (drop at zs) ≡ Int (int_or_zero (slice_get zs at)) ∷ listed n (drop (suc at) zs)
listed-drop n zero [] = refl
listed-drop n (suc at) [] = refl
listed-drop n zero (z ∷ zs) = refl
listed-drop n (suc at) (z ∷ zs) = listed-drop n at zs

pub listed-zero : (zs : List ℤ) → listed 0 zs ≡ []
listed-zero [] = refl
listed-zero (z ∷ zs) = refl
