-- Open jumps that get their places.
use Rattle.std.proofs.Common.{◌≡◌, ℕ, zero, suc, ◌+◌, ◌<◌, List, [], ◌∷◌, ◌++◌, length, take, drop, map, Option, None, Some, IfSome, refl, ap, subst, ◌∙◌, arith}
use Rattle.std.specs.Prelude.{slice_get, slice_set}
use Rattle.ax_flow.specs.Drafts.{filled}
use Rattle.ax_flow.specs.declared.Op.{Op}
use Rattle.ax_flow.specs.declared.Draft.{Draft}
use Rattle.ax_flow.specs.declared.Draft.TheVariants.{Made}

set_same : {A : Type 0} (xs : List A) (n : ℕ) (x : A) → slice_get xs n ≡ Some x → xs ≡ slice_set xs n x
set_same [] n x e = refl
set_same (y ∷ xs) zero x e = grind (arith, e)
set_same (y ∷ xs) (suc n) x e = ap (λ l. y ∷ l) (set_same xs n x e)

-- an op that stands stays
pub made_stays : (xs : List Draft) (n b c : ℕ) (o : Op) → slice_get xs n ≡ Some (Made o) → IfSome (slice_get xs n) (λ d. xs ≡ slice_set xs n (filled b c d))
made_stays xs n b c o e = rw e (set_same xs n (Made o) e)

module _ {A : Type 0} where
  -- a list of which the first n elements are mapped
  abbrev partly_mapped : (A → A) → List A → ℕ → List A
  partly_mapped f xs n = take n (map f xs) ++ drop n xs

  on_some : (o : Option A) (P Q : A → Type 0) → ((x : A) → P x → Q x) → IfSome o P → IfSome o Q
  on_some None P Q h p = p
  on_some (Some x) P Q h p = h x p

  on_both : (o : Option A) (P Q R : A → Type 0) → ((x : A) → P x → Q x → R x) → IfSome o P → IfSome o Q → IfSome o R
  on_both None P Q R h p q = p
  on_both (Some x) P Q R h p q = h x p q

  within_some : (xs : List A) (n : ℕ) (G : Type 0) → n < length xs → IfSome (slice_get xs n) (λ x. G) → G
  within_some [] n G lt h = absurd (omega arith)
  within_some (x ∷ xs) zero G lt h = h
  within_some (x ∷ xs) (suc n) G lt h = within_some xs n G (omega arith) h

  one_more : (f : A → A) (xs : List A) (n : ℕ) → n < length xs → IfSome (slice_get xs n) (λ y. slice_set (partly_mapped f xs n) n (f y) ≡ partly_mapped f xs (suc n))
  one_more f [] n lt = absurd (omega arith)
  one_more f (x ∷ xs) zero lt = refl
  one_more f (x ∷ xs) (suc n) lt =
      on_some (slice_get xs n) (λ y. slice_set (partly_mapped f xs n) n (f y) ≡ partly_mapped f xs (suc n))
      (λ y. slice_set (partly_mapped f (x ∷ xs) (suc n)) (suc n) (f y) ≡ partly_mapped f (x ∷ xs) (suc (suc n))) (λ y e. ap (λ l. f x ∷ l) e) (one_more f xs n (omega arith))

  still_there : (f : A → A) (xs : List A) (n : ℕ) → n < length xs → slice_get (partly_mapped f xs n) n ≡ slice_get xs n
  still_there f [] n lt = absurd (omega arith)
  still_there f (x ∷ xs) zero lt = refl
  still_there f (x ∷ xs) (suc n) lt = still_there f xs n (omega arith)

  -- one more element of a list is mapped
  pub mapped_step : (f : A → A) (xs code new : List A) (n : ℕ) → n < length xs → code ≡ partly_mapped f xs n → IfSome (slice_get code n) (λ d. new ≡ slice_set code n (f d)) → new ≡ partly_mapped f xs (n + 1)
  mapped_step f xs code new n lt e h =
      let P = λ (l : List A) (d : A). new ≡ slice_set l n (f d) in
      let at = subst (λ l. IfSome (slice_get l n) (P l)) e h in
      let here = subst (λ o. IfSome o (P (partly_mapped f xs n))) (still_there f xs n lt) at in
      let got = within_some xs n (new ≡ partly_mapped f xs (suc n)) lt
      (on_both (slice_get xs n) (P (partly_mapped f xs n)) (λ y. slice_set (partly_mapped f xs n) n (f y) ≡ partly_mapped f xs (suc n)) (λ y. new ≡ partly_mapped f xs (suc n)) (λ y a b. a ∙ b) here (one_more f xs n lt)) in
      let next : suc n ≡ n + 1 = omega arith in
      subst (λ m. new ≡ partly_mapped f xs m) next got
