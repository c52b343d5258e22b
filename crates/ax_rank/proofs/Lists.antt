-- Lists in one order with the same elements.
use Rattle.std.proofs.Common.{◌≡◌, ℕ, zero, suc, ◌<◌, ◌∷◌, [], ◌⊎◌, List, length, get_or, ap₂, subst, refl, sym, ◌∙◌, inl, inr, ⊎_elim, arith}
use Rattle.std.specs.List.{AllPairs, Contains}
use Rattle.std.proofs.lemmas.List.Sorted.{Contains-permutation, IsPermutation-sym}
use Rattle.ax_rank.specs.Suspicion.{StandsBefore, OneSuspicionOrder}
use Rattle.ax_rank.proofs.Orders.{stands_one_way}

here : {X : Type 0} (x : X) (xs : List X) → Contains (x ∷ xs) x
here x xs = (0, omega arith, refl)

there : {X : Type 0} (x y : X) (xs : List X) → Contains xs y → Contains (x ∷ xs) y
there x y xs c = (suc c.0, omega (arith, c.1), c.2)

at_place : {X : Type 0} (x y : X) (ys : List X) (k : ℕ) → k < length (y ∷ ys) → get_or (y ∷ ys) k x ≡ x → (y ≡ x) ⊎ Contains ys x
at_place x y ys zero l e = inl e
at_place x y ys (suc k) l e = inr (k, omega (arith, l), e)

cases : {X : Type 0} (x y : X) (ys : List X) → Contains (y ∷ ys) x → (y ≡ x) ⊎ Contains ys x
cases x y ys c = at_place x y ys c.0 c.1 c.2

none : {X : Type 0} (x : X) → Contains [] x → ⊥
none x c = omega (arith, c.1)

module _ {X : Type 0} (R : X → X → Type 0) (one_way : (x y : X) → R x y → R y x → ⊥) where
  head : (x y : X) (xs : List X) → AllPairs R (x ∷ xs) → Contains xs y → R x y
  head x y xs p c = subst (R x) c.2 (p 0 (suc c.0) y (omega arith) (omega (arith, c.1)))

  tail : (x : X) (xs : List X) → AllPairs R (x ∷ xs) → AllPairs R xs
  tail x xs p = λ i j d ij lj. p (suc i) (suc j) d (omega (arith, ij)) (omega (arith, lj))

  first : (x y : X) (a b : List X) → AllPairs R (x ∷ a) → AllPairs R (y ∷ b) → Contains (y ∷ b) x → Contains (x ∷ a) y → x ≡ y
  first x y a b p q to back = ⊎_elim (λ e. sym e) (λ later. ⊎_elim (λ e. e) (λ also. absurd (one_way x y (head x y a p also) (head y x b q later))) (cases y x a back)) (cases x y b to)

  rest : (x y z : X) (a b : List X) → x ≡ y → AllPairs R (x ∷ a) → Contains a z → Contains (y ∷ b) z → Contains b z
  rest x y z a b e p c d = ⊎_elim (λ f. absurd (let r = subst (R x) (sym (e ∙ f)) (head x z a p c) in one_way x x r r)) (λ found. found) (cases z y b d)

  pub one_list : (a b : List X) → AllPairs R a → AllPairs R b → ((z : X) → Contains a z → Contains b z) → ((z : X) → Contains b z → Contains a z) → a ≡ b
  one_list [] [] p q to back = refl
  one_list [] (y ∷ b) p q to back = absurd (none y (back y (here y b)))
  one_list (x ∷ a) [] p q to back = absurd (none x (to x (here x a)))
  one_list (x ∷ a) (y ∷ b) p q to back =
      let e = first x y a b p q (to x (here x a)) (back y (here y b)) in
      ap₂ ◌∷◌ e (one_list a b (tail x a p) (tail y b q)
      (λ z c. rest x y z a b e p c (to z (there x z a c)))
      (λ z c. rest y x z b a (sym e) q c (back z (there y z b c))))

pub one_suspicion_order : OneSuspicionOrder
one_suspicion_order places a b p q = one_list StandsBefore stands_one_way a b p.1 q.1
    (λ z c. Contains-permutation places b z q.0 (Contains-permutation a places z (IsPermutation-sym places a p.0) c))
    (λ z c. Contains-permutation places a z p.0 (Contains-permutation b places z (IsPermutation-sym places b q.0) c))
