-- Ending the objects from a number on, one after another.
use Rattle.std.proofs.Common.{◌≡◌, refl, ap, ℕ, zero, suc, List, [], ◌∷◌, length, Option, Some, None}
use Rattle.std.specs.Prelude.{slice_get}
use Rattle.ax_meaning.specs.declared.Extent.{Extent}
use Rattle.ax_meaning.specs.Store.{dead, end_extent, end_object, end_from}

end_extent-cons : (e : Option Extent) (n : ℕ) (x : Extent) (xs : List Extent) → end_extent e (suc n) (x ∷ xs) ≡ x ∷ end_extent e n xs
end_extent-cons None n x xs = refl
end_extent-cons (Some o) n x xs = refl

-- the first of them ended by itself
pub end_from-end_object : (n : ℕ) (xs : List Extent) → end_from (suc n) (end_object n xs) ≡ end_from n xs
end_from-end_object zero [] = refl
end_from-end_object (suc n) [] = refl
end_from-end_object zero (x ∷ xs) = refl
end_from-end_object (suc n) (x ∷ xs) = rw (end_extent-cons (slice_get xs n) n x xs) (ap (λ ys. x ∷ ys) (end_from-end_object n xs))

pub length-end_object : (n : ℕ) (xs : List Extent) → length (end_object n xs) ≡ length xs
length-end_object zero [] = refl
length-end_object (suc n) [] = refl
length-end_object zero (x ∷ xs) = refl
length-end_object (suc n) (x ∷ xs) = rw (end_extent-cons (slice_get xs n) n x xs) (ap suc (length-end_object n xs))
