-- Elements of lists, and lists without repeats.
use Rattle.std.proofs.Common.{◌≡◌, ℕ, suc, zero, ◌<◌, ◌≤◌, ◌⊎◌, Bool, cond, true, false, List, [], ◌∷◌, ◌++◌, refl, length, get_or, map, arith, ap, sym, ◌∙◌, subst, take}
use Rattle.std.specs.List.{flat_map, filter, Contains, AllPairs, All}
use Rattle.std.proofs.lemmas.List.Elements.{Contains-append_left, Contains-append_right, Contains-append_cases, Contains-push_cases}
use Rattle.std.proofs.lemmas.List.Kept.{AllPairs-cons}
use mathlib.Core.Logic.{inl, inr}

pub nothing : {X : Type 0} {x : X} → Contains [] x → ⊥
nothing c = absurd (omega (arith, c.1))

pub here : {X : Type 0} (x : X) (xs : List X) → Contains (x ∷ xs) x
here x xs = (0, omega arith, refl)

pub there : {X : Type 0} (y : X) {x : X} (xs : List X) → Contains xs x → Contains (y ∷ xs) x
there y {x} xs c = Contains-append_right (y ∷ []) xs x c

pub only : {X : Type 0} (y x : X) → Contains (y ∷ []) x → y ≡ x
only y x c = elim (Contains-push_cases [] y x c) as (λ _. y ≡ x) [ inl d ↦ absurd (nothing d) | inr e ↦ e ]

pub which : {X : Type 0} (y x : X) (xs : List X) → Contains (y ∷ xs) x → (y ≡ x) ⊎ Contains xs x
which y x xs c = elim (Contains-append_cases (y ∷ []) xs x c) as (λ _. (y ≡ x) ⊎ Contains xs x) [ inl d ↦ inl (only y x d) | inr d ↦ inr d ]

pub map-has : {X Y : Type 0} (f : X → Y) (xs : List X) (x : X) → Contains xs x → Contains (map f xs) (f x)
map-has f [] x c = absurd (nothing c)
map-has f (y ∷ xs) x c = elim (which y x xs c) as (λ _. Contains (map f (y ∷ xs)) (f x)) [ inl e ↦ subst (λ z. Contains (f y ∷ map f xs) (f z)) e (here (f y) (map f xs)) | inr d ↦ there (f y) (map f xs) (map-has f xs x d) ]

pub map-from : {X Y : Type 0} (f : X → Y) (xs : List X) (y : Y) → Contains (map f xs) y → (x : X) × Contains xs x × (f x ≡ y)
map-from f [] y c = absurd (nothing c)
map-from {X} f (x ∷ xs) y c = elim (which (f x) y (map f xs) c) as (λ _. (z : X) × Contains (x ∷ xs) z × (f z ≡ y)) [ inl e ↦ (x, here x xs, e) | inr d ↦ (let r = map-from f xs y d in (r.0, there x xs r.1, r.2)) ]

pub flat-has : {X Y : Type 0} (f : X → List Y) (xs : List X) (x : X) (y : Y) → Contains xs x → Contains (f x) y → Contains (flat_map f xs) y
flat-has f [] x y c d = absurd (nothing c)
flat-has f (z ∷ xs) x y c d = elim (which z x xs c) as (λ _. Contains (flat_map f (z ∷ xs)) y) [ inl e ↦ Contains-append_left (f z) (flat_map f xs) y (subst (λ w. Contains (f w) y) (sym e) d) | inr g ↦ Contains-append_right (f z) (flat_map f xs) y (flat-has f xs x y g d) ]

pub flat-from : {X Y : Type 0} (f : X → List Y) (xs : List X) (y : Y) → Contains (flat_map f xs) y → (x : X) × Contains xs x × Contains (f x) y
flat-from f [] y c = absurd (nothing c)
flat-from {X} f (x ∷ xs) y c = elim (Contains-append_cases (f x) (flat_map f xs) y c) as (λ _. (z : X) × Contains (x ∷ xs) z × Contains (f z) y) [ inl d ↦ (x, here x xs, d) | inr d ↦ (let r = flat-from f xs y d in (r.0, there x xs r.1, r.2)) ]

kept-cond : {X : Type 0} (b : Bool) (x : X) (xs : List X) → b ≡ true → Contains (cond b (x ∷ xs) xs) x
kept-cond true x xs e = here x xs
kept-cond false x xs e = absurd (cc)

later-cond : {X : Type 0} (b : Bool) (y x : X) (xs : List X) → Contains xs x → Contains (cond b (y ∷ xs) xs) x
later-cond true y x xs c = there y xs c
later-cond false y x xs c = c

pub filter-has : {X : Type 0} (p : X → Bool) (xs : List X) (x : X) → Contains xs x → p x ≡ true → Contains (filter p xs) x
filter-has p [] x c e = absurd (nothing c)
filter-has p (y ∷ xs) x c e = elim (which y x xs c) as (λ _. Contains (filter p (y ∷ xs)) x) [ inl i ↦ subst (λ z. Contains (filter p (y ∷ xs)) z) i (kept-cond (p y) y (filter p xs) (ap p i ∙ e)) | inr d ↦ later-cond (p y) y x (filter p xs) (filter-has p xs x d e) ]

from-cond : {X : Type 0} (b : Bool) (y x : X) (xs : List X) → Contains (cond b (y ∷ xs) xs) x → ((y ≡ x) × (b ≡ true)) ⊎ Contains xs x
from-cond true y x xs c = elim (which y x xs c) as (λ _. ((y ≡ x) × (true ≡ true)) ⊎ Contains xs x) [ inl e ↦ inl (e, refl) | inr d ↦ inr d ]
from-cond false y x xs c = inr c

pub filter-from : {X : Type 0} (p : X → Bool) (xs : List X) (x : X) → Contains (filter p xs) x → Contains xs x × (p x ≡ true)
filter-from p [] x c = absurd (nothing c)
filter-from p (y ∷ xs) x c = elim (from-cond (p y) y x (filter p xs) c) as (λ _. Contains (y ∷ xs) x × (p x ≡ true)) [ inl h ↦ (subst (λ z. Contains (y ∷ xs) z) h.0 (here y xs), ap p (sym h.0) ∙ h.1) | inr d ↦ (let r = filter-from p xs x d in (there y xs r.0, r.1)) ]

-- R of each element and each later one, by recursion on the list
abbrev pub Apart : {X : Type 0} → (X → X → Type 0) → List X → Type 0
Apart R [] = Unit {0}
Apart {X} R (x ∷ xs) = ((y : X) → Contains xs y → R x y) × Apart R xs

pub Apart-append : {X : Type 0} (R : X → X → Type 0) (xs ys : List X) → Apart R xs → Apart R ys → ((x y : X) → Contains xs x → Contains ys y → R x y) → Apart R (xs ++ ys)
Apart-append R [] ys a b f = b
Apart-append R (x ∷ xs) ys a b f = (
  λ y c. elim (Contains-append_cases xs ys y c) as (λ _. R x y) [ inl d ↦ a.0 y d | inr d ↦ f x y (here x xs) d ],
  Apart-append R xs ys a.1 b (λ z y c d. f z y (there x xs c) d),
)

pub Apart-map : {X Y : Type 0} (R : X → X → Type 0) (S : Y → Y → Type 0) (f : X → Y) → ((x y : X) → R x y → S (f x) (f y)) → (xs : List X) → Apart R xs → Apart S (map f xs)
Apart-map R S f g [] a = tt
Apart-map R S f g (x ∷ xs) a =
    (λ y c. (let r = map-from f xs y c in subst (S (f x)) r.2 (g x r.0 (a.0 r.0 r.1))), Apart-map R S f g xs a.1)

pub Apart-flat : {X Y : Type 0} (R : X → X → Type 0) (S : Y → Y → Type 0) (f : X → List Y) → ((x y : X) (a b : Y) → R x y → Contains (f x) a → Contains (f y) b → S a b) → ((x : X) → Apart S (f x)) → (xs : List X) → Apart R xs → Apart S (flat_map f xs)
Apart-flat R S f g h [] a = tt
Apart-flat R S f g h (x ∷ xs) a =
    Apart-append S (f x) (flat_map f xs) (h x) (Apart-flat R S f g h xs a.1)
    (λ c d cin din. (let r = flat-from f xs d din in g x r.0 c d (a.0 r.0 r.1) cin r.2))

apart-cond : {X : Type 0} (R : X → X → Type 0) (b : Bool) (x : X) (xs : List X) → ((y : X) → Contains xs y → R x y) → Apart R xs → Apart R (cond b (x ∷ xs) xs)
apart-cond R true x xs f a = (f, a)
apart-cond R false x xs f a = a

pub Apart-filter : {X : Type 0} (R : X → X → Type 0) (p : X → Bool) (xs : List X) → Apart R xs → Apart R (filter p xs)
Apart-filter R p [] a = tt
Apart-filter R p (x ∷ xs) a = apart-cond R (p x) x (filter p xs) (λ y c. a.0 y ((filter-from p xs y c).0)) (Apart-filter R p xs a.1)

again : {X : Type 0} (xs : List X) (k : ℕ) (d : X) → k < length xs → get_or xs k (get_or xs k d) ≡ get_or xs k d
again [] k d h = absurd (omega arith)
again (x ∷ xs) zero d h = refl
again (x ∷ xs) (suc k) d h = again xs k d (omega arith)

all-from : {X : Type 0} (P : X → Type 0) (xs : List X) → ((y : X) → Contains xs y → P y) → All P xs
all-from P xs f k d h = f (get_or xs k d) (k, h, again xs k d h)

pub pairs_from : {X : Type 0} (R : X → X → Type 0) (xs : List X) → Apart R xs → AllPairs R xs
pairs_from R [] a = λ i j d lt h. absurd (omega arith)
pairs_from R (x ∷ xs) a = AllPairs-cons R x xs (all-from (R x) xs a.0) (pairs_from R xs a.1)

pub from_pairs : {X : Type 0} (R : X → X → Type 0) (xs : List X) → AllPairs R xs → Apart R xs
from_pairs R [] a = tt
from_pairs R (x ∷ xs) a =
    (λ y c. subst (R x) c.2 (a 0 (suc c.0) y (omega arith) (omega (arith, c.1))), from_pairs R xs (λ i j d lt h. a (suc i) (suc j) d (omega arith) (omega arith)))

pub take-whole : {X : Type 0} (xs : List X) (i : ℕ) → length xs ≤ i → take i xs ≡ xs
take-whole [] zero h = refl
take-whole [] (suc i) h = refl
take-whole (x ∷ xs) zero h = absurd (omega arith)
take-whole (x ∷ xs) (suc i) h = ap (λ ys. x ∷ ys) (take-whole xs i (omega arith))

pub no-false : false ≡ true → ⊥
no-false h = cc
