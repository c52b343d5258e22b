-- Lists that a loop has made as far as it has come.
use Rattle.std.proofs.Common.{◌≡◌, ℕ, ◌+◌, ◌<◌, Bool, cond, true, false, List, [], ◌∷◌, ◌++◌, refl, ap, take, get_or, length, map}
use Rattle.std.specs.List.{filter, flat_map}
use Rattle.std.proofs.lemmas.List.{take_more, map-append}
use Rattle.std.proofs.lemmas.List.Concat.{flat_map-append}
use Rattle.std.proofs.lemmas.List.Elements.{filter-append}
use Rattle.ax_space_trees.proofs.Lists.{more_kept, more_mapped}

map-cond : {X Y : Type 0} (f : X → Y) (b : Bool) (x : X) → map f (cond b (x ∷ []) []) ≡ cond b (f x ∷ []) []
map-cond f true x = refl
map-cond f false x = refl

pub more_filtered : {X Y : Type 0} (f : X → Y) (p : X → Bool) (xs : List X) (i : ℕ) (d : X) → i < length xs → map f (filter p (take (i + 1) xs)) ≡ map f (filter p (take i xs)) ++ cond (p (get_or xs i d)) (f (get_or xs i d) ∷ []) []
more_filtered f p xs i d h =
    rw (take_more xs i d h, filter-append, map-append) (ap (λ ys. map f (filter p (take i xs)) ++ ys) (map-cond f (p (get_or xs i d)) (get_or xs i d)))

pub ruleset steps = (more_kept, more_mapped, more_filtered)

append-nil : {X : Type 0} (xs : List X) → xs ++ [] ≡ xs
append-nil [] = refl
append-nil (x ∷ xs) = ap (λ ys. x ∷ ys) (append-nil xs)

pub more_flat : {X Y : Type 0} (f : X → List Y) (xs : List X) (i : ℕ) (d : X) → i < length xs → flat_map f (take (i + 1) xs) ≡ flat_map f (take i xs) ++ f (get_or xs i d)
more_flat f xs i d h = rw (take_more xs i d h, flat_map-append) (ap (λ ys. flat_map f (take i xs) ++ ys) (append-nil (f (get_or xs i d))))

pub ruleset flats = more_flat
