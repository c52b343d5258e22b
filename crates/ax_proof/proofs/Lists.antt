-- Membership in lists.
use Rattle.std.proofs.Common.{◌≡◌, ℕ, zero, suc, ◌+◌, ◌<◌, ◌≤◌, List, [], ◌∷◌, ◌++◌, length, get_or, take, drop, map, arith, ◌⊎◌, inl, inr, refl, sym, subst, ◌∙◌}
use Rattle.std.specs.List.{Contains}
use Rattle.std.proofs.lemmas.List.{take-append-drop, take_more, get_or_default, get_or-append-add, get_or_append_left}
use Rattle.std.proofs.lemmas.List.Elements.{Contains-append_left, Contains-append_right}

pub Contains-here : {X : Type 0} (x : X) (xs : List X) → Contains (x ∷ xs) x
Contains-here x xs = (0, omega arith, refl)

pub Contains-there : {X : Type 0} (y : X) (xs : List X) (x : X) → Contains xs x → Contains (y ∷ xs) x
Contains-there y xs x (k, l, e) = (suc k, omega arith, e)

pub Contains-cons_cases : {X : Type 0} (y : X) (xs : List X) (x : X) → Contains (y ∷ xs) x → (x ≡ y) ⊎ Contains xs x
Contains-cons_cases y xs x (zero, l, e) = inl (sym e)
Contains-cons_cases y xs x (suc k, l, e) = inr (k, omega arith, e)

pub Contains-none : {X : Type 0} (x : X) → Contains [] x → ⊥
Contains-none x (k, l, e) = absurd (omega arith)

pub Contains-take : {X : Type 0} (xs : List X) (i : ℕ) (x : X) → Contains (take i xs) x → Contains xs x
Contains-take {X} xs i x h =
    let P : List X → Type 0 = λ zs. Contains zs x in
    subst P (take-append-drop i xs) (Contains-append_left (take i xs) (drop i xs) x h)

-- an element at a place that is read at itself
pub Contains-read : {X : Type 0} (xs : List X) (i : ℕ) (x : X) → i < length xs → x ≡ get_or xs i x → Contains xs x
Contains-read xs i x l e = (i, l, sym e)

-- an element of a mapped list comes from one of the list
pub Contains-map : {X Y : Type 0} (f : X → Y) (xs : List X) (y : Y) → Contains (map f xs) y → (x : X) × Contains xs x × (f x ≡ y)
Contains-map f [] y h = absurd (Contains-none y h)
Contains-map f (x ∷ xs) y h =
    elim (Contains-cons_cases (f x) (map f xs) y h) [
      | inl e ↦ (x, Contains-here x xs, sym e)
      | inr r ↦ let (z, zin, e) = Contains-map f xs y r in (z, Contains-there x xs z zin, e)
    ]

pub Contains-mapped : {X Y : Type 0} (f : X → Y) (xs : List X) (x : X) → Contains xs x → Contains (map f xs) (f x)
Contains-mapped f [] x h = absurd (Contains-none x h)
Contains-mapped {X} {Y} f (z ∷ xs) x h =
    elim (Contains-cons_cases z xs x h) [
      | inl e ↦ let P : X → Type 0 = λ w. Contains (f z ∷ map f xs) (f w) in subst P (sym e) (Contains-here (f z) (map f xs))
      | inr r ↦ Contains-there (f z) (map f xs) (f x) (Contains-mapped f xs x r)
    ]

-- one more element is taken
pub took : {X : Type 0} (xs : List X) (i : ℕ) (x : X) → i < length xs → x ≡ get_or xs i x → take (i + 1) xs ≡ take i xs ++ x ∷ []
took xs i x h e = rw e (take_more xs i _ h)
