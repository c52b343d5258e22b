-- Literals that stand by their codes.
use Rattle.std.proofs.Common.{◌≡◌, ℕ, zero, suc, ◌+◌, ◌*◌, ◌/◌, ◌%◌, ◌<◌, ◌==◌, List, [], ◌∷◌, ◌++◌, map, arith, ◌⊎◌, inl, inr, refl, sym, subst, ap, ◌∙◌, Bool, true, false, cond}
use Rattle.std.specs.Prelude.{if◌then◌else◌, nat_eq}
use Rattle.std.specs.List.{Contains, list_any}
use Rattle.std.proofs.lemmas.Bool.{eqb-true, eq-eqb}
use Rattle.std.proofs.lemmas.List.{map_push}
use Rattle.std.proofs.lemmas.List.Folds.{Any-from_list_any, list_any-from_Any}
use Rattle.std.proofs.lemmas.List.Elements.{Contains-push_cases}
use Rattle.ax_proof.specs.Literal.{Literal, negation, code_of, literal_of}
use Rattle.ax_proof.specs.Trail.{IsOpen, IsConsistent}
use Rattle.ax_proof.proofs.Lists.{Contains-map, Contains-mapped}
use Rattle.ax_proof.proofs.Literals.{same_literal, negation_other, negation_twice}

half : (v : ℕ) (p : Bool) → (2 * v + cond p 0 1) / 2 ≡ v
half v true = omega arith
half v false = omega arith

even : (v : ℕ) (p : Bool) → ((2 * v + cond p 0 1) % 2 == 0) ≡ p
even v true = let e : (2 * v + 0) % 2 ≡ 0 = omega arith in let f : ℕ → Bool = λ n. n == 0 in ap f e
even v false = let e : (2 * v + 1) % 2 ≡ 1 = omega arith in let f : ℕ → Bool = λ n. n == 0 in ap f e

code_read : (l : Literal) → literal_of (code_of l) ≡ l
code_read l = same_literal (literal_of (code_of l)) l (half l.var l.positive) (even l.var l.positive)

zero_or_one : (n : ℕ) → n < 2 → (n ≡ 0) ⊎ (n ≡ 1)
zero_or_one zero h = inl refl
zero_or_one (suc zero) h = inr refl
zero_or_one (suc (suc k)) h = absurd (omega arith)

code_back : (x : ℕ) → code_of (literal_of x) ≡ x
code_back x =
    let f : ℕ → ℕ = λ n. 2 * (x / 2) + cond (n == 0) 0 1 in
    elim (zero_or_one (x % 2) (omega arith)) [
      | inl e ↦ let read : f (x % 2) ≡ f 0 = ap f e in let sum : 2 * (x / 2) + 0 ≡ x = omega arith in read ∙ sum
      | inr e ↦ let read : f (x % 2) ≡ f 1 = ap f e in let sum : 2 * (x / 2) + 1 ≡ x = omega arith in read ∙ sum
    ]

pub coded : (keys : List ℕ) (l : Literal) → list_any (nat_eq (code_of l)) keys ≡ true → Contains (map literal_of keys) l
coded keys l e =
    let (k, x, lt, at, hit) = Any-from_list_any (nat_eq (code_of l)) keys e in
    let same : code_of l ≡ x = eqb-true (code_of l) x hit in
    let P : Literal → Type 0 = λ z. Contains (map literal_of keys) z in
    subst P (ap literal_of (sym same) ∙ code_read l) (Contains-mapped literal_of keys x (k, lt, at))

code_there : (keys : List ℕ) (l : Literal) → Contains (map literal_of keys) l → list_any (nat_eq (code_of l)) keys ≡ true
code_there keys l h =
    let (x, (k, lt, at), e) = Contains-map literal_of keys l h in
    let same : code_of l ≡ x = ap code_of (sym e) ∙ code_back x in
    list_any-from_Any (nat_eq (code_of l)) keys (k, x, lt, at, eq-eqb (code_of l) x same)

pub not_coded : (keys : List ℕ) (l : Literal) → list_any (nat_eq (code_of l)) keys ≡ false → Contains (map literal_of keys) l → ⊥
not_coded keys l e h = let there = code_there keys l h in cc

chosen : {X : Type 0} (b : Bool) (x y : X) → (b ≡ true → ⊥) → (if b then x else y) ≡ y
chosen true x y h = absurd (h refl)
chosen false x y h = refl

module _ (keys new : List ℕ) (l : Literal) (is_open : IsOpen (map literal_of keys) l) (is_new : new ≡ (if list_any (nat_eq (code_of l)) keys then keys else keys ++ code_of l ∷ [])) where
  pub inserted : map literal_of new ≡ map literal_of keys ++ l ∷ []
  inserted =
      let last : new ≡ keys ++ code_of l ∷ [] = is_new ∙ chosen (list_any (nat_eq (code_of l)) keys) keys (keys ++ code_of l ∷ []) (λ e. is_open.0 (coded keys l e)) in
      ap (λ (x : List ℕ). map literal_of x) last ∙ map_push literal_of keys (code_of l) ∙ ap (λ (x : Literal). map literal_of keys ++ x ∷ []) (code_read l)

  pub inserted_consistent : IsConsistent (map literal_of keys) → IsConsistent (map literal_of new)
  inserted_consistent before a p n =
      let lits : List Literal = map literal_of keys in
      let has_a : List Literal → Type 0 = λ x. Contains x a in
      let has_not_a : List Literal → Type 0 = λ x. Contains x (negation a) in
      let old : Literal → Type 0 = λ x. Contains lits x in
      elim (Contains-push_cases lits l a (subst has_a inserted p)) [
        | inl old_a ↦ elim (Contains-push_cases lits l (negation a) (subst has_not_a inserted n)) [
          | inl old_not ↦ before a old_a old_not
          | inr e ↦ let back : a ≡ negation l = sym (negation_twice a) ∙ ap negation (sym e) in is_open.1 (subst old back old_a)
        ]
        | inr e ↦ elim (Contains-push_cases lits l (negation a) (subst has_not_a inserted n)) [
          | inl old_not ↦ is_open.1 (subst old (ap negation (sym e)) old_not)
          | inr e' ↦ negation_other a (sym e ∙ e')
        ]
      ]

pub kept_consistent : (keys new : List ℕ) → new ≡ keys → IsConsistent (map literal_of keys) → IsConsistent (map literal_of new)
kept_consistent keys new e h = let P : List ℕ → Type 0 = λ x. IsConsistent (map literal_of x) in subst P (sym e) h
