-- Lists of which some elements have been tried.
use Rattle.std.proofs.Common.{◌≡◌, ℕ, zero, suc, ◌+◌, ◌<◌, ◌≤◌, List, [], ◌∷◌, length, take, get_or, slice_get, Some, IsTrue, false, true, refl, sym, ap, ◌∙◌, subst, arith}
use Rattle.std.specs.List.{All, Contains}
use Rattle.std.proofs.lemmas.List.Elements.{All-more}
use Rattle.std.proofs.lemmas.Option.{get_or_from_slice_get}

no-false : false ≡ true → ⊥
no-false h = cc

take-whole : {X : Type 0} (xs : List X) (i : ℕ) → length xs ≤ i → take i xs ≡ xs
take-whole [] zero h = refl
take-whole [] (suc i) h = refl
take-whole (x ∷ xs) zero h = absurd (omega arith)
take-whole (x ∷ xs) (suc i) h = ap (λ ys. x ∷ ys) (take-whole xs i (omega arith))

-- what fails at one place doesn't hold of all
pub not-all : {X : Type 0} (P : X → Type 0) (xs : List X) (i : ℕ) (x : X) → i < length xs → x ≡ get_or xs i x → (P x → ⊥) → (IsTrue false → All P xs) × (All P xs → IsTrue false)
not-all P xs i x h is not = ((λ t. absurd (no-false t)), (λ all. absurd (not (subst P (sym is) (all i x h)))))

-- one element more
pub one-more : {X : Type 0} (P : X → Type 0) (xs : List X) (i : ℕ) (x : X) → i < length xs → x ≡ get_or xs i x → All P (take i xs) → P x → All P (take (i + 1) xs)
one-more P xs i x h is all here = All-more P xs i x h all (subst P is here)

-- the last of them has been tried
pub whole : {X : Type 0} (P : X → Type 0) (xs : List X) (i : ℕ) → length xs ≤ i → All P (take i xs) → All P xs
whole P xs i h all = rw (take-whole xs i h) at all

pub whole-true : {X : Type 0} (P : X → Type 0) (xs : List X) (i : ℕ) → length xs ≤ i → All P (take i xs) → (IsTrue true → All P xs) × (All P xs → IsTrue true)
whole-true P xs i h all = ((λ t. whole P xs i h all), (λ t. refl))

-- the element at a place
pub at-place : {X : Type 0} (P : X → Type 0) (xs : List X) (i : ℕ) (x : X) → x ≡ get_or xs i x → P x → (y : X) → slice_get xs i ≡ Some y → P y
at-place P xs i x is here y e = subst P (is ∙ get_or_from_slice_get xs i y x e) here

pub contains-place : {X : Type 0} (xs : List X) (i : ℕ) (y : X) → i < length xs → slice_get xs i ≡ Some y → Contains xs y
contains-place xs i y h e = (i, h, get_or_from_slice_get xs i y y e)
