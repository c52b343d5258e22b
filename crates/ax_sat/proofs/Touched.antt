-- Lists of the variables that were marked.
use Rattle.std.proofs.Common.{◌≡◌, ◌≢◌, ℕ, ◌<◌, List, [], ◌∷◌, ◌++◌, length, get_or, set, arith, inl, inr, refl, sym, subst, ◌∙◌, true, false, Bool, get_or-set_other, get_or-set_same, length-set, length-append}
use Rattle.std.specs.List.{All, Contains}
use Rattle.std.proofs.lemmas.Bool.{cases_order}
use Rattle.std.proofs.lemmas.List.{get_or_append_left, get_or_push}
use Rattle.std.proofs.lemmas.List.Elements.{Contains-push_cases}
use Rattle.ax_proof.specs.Marks.{IsMarked}

not_both : (b : Bool) → b ≡ true → b ≡ false → ⊥
not_both true e f = cc
not_both false e f = cc

module _ (on : List Bool) (touched rest : List ℕ) (x : ℕ) (same : touched ≡ rest ++ x ∷ []) (within : All (λ y. y < length on) touched) where
  pushed_within : All (λ (y : ℕ). y < length on) (rest ++ x ∷ [])
  pushed_within = let P : List ℕ → Type 0 = λ z. All (λ (y : ℕ). y < length on) z in subst P same within

  pub last_within : x < length on
  last_within =
      let n = length-append rest (x ∷ []) in
      let e : get_or (rest ++ x ∷ []) (length rest) x ≡ x = get_or_push rest x x (length rest) refl in
      let h : get_or (rest ++ x ∷ []) (length rest) x < length on = pushed_within (length rest) x (omega arith) in
      omega arith

  pub rest_within : All (λ y. y < length (set on x false)) rest
  rest_within k d lt =
      let n = length-append rest (x ∷ []) in
      let e : get_or (rest ++ x ∷ []) k d ≡ get_or rest k d = get_or_append_left rest (x ∷ []) d k lt in
      let h : get_or (rest ++ x ∷ []) k d < length on = pushed_within k d (omega arith) in
      simp length-set (omega arith)

  pub rest_listed : ((y : ℕ) → IsMarked on y → Contains touched y) → (y : ℕ) → IsMarked (set on x false) y → Contains rest y
  rest_listed listed y m =
      let other : y ≢ x → Contains rest y = λ ne.
      let P : List ℕ → Type 0 = λ z. Contains z y in
      elim (Contains-push_cases rest x y (subst P same (listed y (sym (get_or-set_other on x y false false ne) ∙ m)))) [
        | inl q ↦ q
        | inr e ↦ absurd (ne (sym e))
      ]
      in
      elim (cases_order y x) [
        | inl e ↦
            let Q : ℕ → Type 0 = λ z. get_or (set on x false) z false ≡ true in
            absurd (not_both (get_or (set on x false) x false) (subst Q e m) (get_or-set_same on x false false last_within))
        | inr (inl lt) ↦ other (omega arith)
        | inr (inr gt) ↦ other (omega arith)
      ]
