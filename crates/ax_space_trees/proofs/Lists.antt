use Rattle.std.proofs.Common.{◌≡◌, ℕ, ◌+◌, ◌<◌, Bool, cond, List, [], ◌∷◌, ◌++◌, refl, ap, take, get_or, length, map}
use Rattle.std.specs.List.{flat_map, filter}
use Rattle.std.proofs.lemmas.List.{take_more, map-append}
use Rattle.std.proofs.lemmas.List.Concat.{flat_map-append}
use Rattle.std.proofs.lemmas.List.Elements.{filter-append}

append-nil : {X : Type 0} (xs : List X) → xs ++ [] ≡ xs
append-nil [] = refl
append-nil (x ∷ xs) = ap (λ ys. x ∷ ys) (append-nil xs)

pub more_kept : {X Y : Type 0} (p : Y → Bool) (f : X → List Y) (xs : List X) (i : ℕ) (d : X) → i < length xs → filter p (flat_map f (take (i + 1) xs)) ≡ filter p (flat_map f (take i xs)) ++ filter p (f (get_or xs i d))
more_kept p f xs i d h =
    rw (take_more xs i d h, flat_map-append, filter-append) (ap (λ ys. filter p (flat_map f (take i xs)) ++ filter p ys) (append-nil (f (get_or xs i d))))

pub more_mapped : {X Y : Type 0} (p : Y → Bool) (f : X → Y) (xs : List X) (i : ℕ) (d : X) → i < length xs → filter p (map f (take (i + 1) xs)) ≡ filter p (map f (take i xs)) ++ cond (p (f (get_or xs i d))) (f (get_or xs i d) ∷ []) []
more_mapped p f xs i d h = rw (take_more xs i d h, map-append, filter-append) refl

pub ruleset steps = (more_kept, more_mapped)
