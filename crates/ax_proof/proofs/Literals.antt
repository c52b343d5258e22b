-- Laws of literals.
use Rattle.std.proofs.Common.{◌≡◌, ◌≢◌, ℕ, ◌<◌, List, length, get_or, arith, ◌⊎◌, inl, inr, refl, sym, ap, ◌∙◌, Bool, true, false, not}
use Rattle.std.specs.List.{Contains, AllPairs}
use Rattle.std.proofs.lemmas.Bool.{cases_order}
use Rattle.std.proofs.lemmas.List.{get_or_default}
use Rattle.ax_proof.specs.Literal.{Literal, negation}
use Rattle.ax_proof.specs.Trail.{IsConsistent}

not_twice : (b : Bool) → not (not b) ≡ b
not_twice true = refl
not_twice false = refl

not_same : (b : Bool) → b ≡ not b → ⊥
not_same true e = cc
not_same false e = cc

pub negation_twice : (l : Literal) → negation (negation l) ≡ l
negation_twice l = let P : Bool → Literal = λ b. record { var = l.var; positive = b } in ap P (not_twice l.positive)

pub negation_other : (l : Literal) → l ≡ negation l → ⊥
negation_other l e = let f : Literal → Bool = λ x. x.positive in not_same l.positive (ap f e)

pub same_literal : (a b : Literal) → a.var ≡ b.var → a.positive ≡ b.positive → a ≡ b
same_literal a b e f =
    let at_var : ℕ → Literal = λ v. record { var = v; positive = a.positive } in
    let at_sign : Bool → Literal = λ p. record { var = b.var; positive = p } in
    ap at_var e ∙ ap at_sign f

same_sign_or_not : (p q : Bool) → (p ≡ q) ⊎ (p ≡ not q)
same_sign_or_not true true = inl refl
same_sign_or_not false false = inl refl
same_sign_or_not true false = inr refl
same_sign_or_not false true = inr refl

pub same_or_negated : (a b : Literal) → a.var ≡ b.var → (a ≡ b) ⊎ (a ≡ negation b)
same_or_negated a b e =
    elim (same_sign_or_not a.positive b.positive) [
      | inl f ↦ inl (same_literal a b e f)
      | inr f ↦ inr (same_literal a (negation b) e f)
    ]

pub same_or_other : (a b : Literal) → (a ≡ b) ⊎ (a ≢ b)
same_or_other a b =
    let f : Literal → ℕ = λ x. x.var in
    elim (cases_order a.var b.var) [
      | inl e ↦ elim (same_or_negated a b e) [ inl q ↦ inl q | inr q ↦ inr (λ r. negation_other b (sym r ∙ q)) ]
      | inr (inl lt) ↦ inr (λ r. let e : a.var ≡ b.var = ap f r in omega arith)
      | inr (inr gt) ↦ inr (λ r. let e : a.var ≡ b.var = ap f r in omega arith)
    ]

-- where no variable stands twice, no literal stands with its negation
pub once_consistent : (ls : List Literal) → AllPairs (λ a b. a.var ≢ b.var) ls → IsConsistent ls
once_consistent ls once l (i, il, ie) (j, jl, je) =
    let f : Literal → ℕ = λ x. x.var in
    let je' : get_or ls j l ≡ negation l = get_or_default ls j l (negation l) jl ∙ je in
    let fi : (get_or ls i l).var ≡ l.var = ap f ie in
    let fj : (get_or ls j l).var ≡ l.var = ap f je' in
    elim (cases_order i j) [
      | inl e ↦ let g : ℕ → Literal = λ k. get_or ls k l in negation_other l (sym ie ∙ ap g e ∙ je')
      | inr (inl lt) ↦ once i j l lt jl (fi ∙ sym fj)
      | inr (inr gt) ↦ once j i l gt il (fj ∙ sym fi)
    ]
