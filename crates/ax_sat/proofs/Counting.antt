-- How many lines can be new, one after another.
use Rattle.std.proofs.Common.{◌≡◌, ◌≢◌, ℕ, zero, suc, ◌+◌, ◌*◌, ◌<◌, ◌≤◌, ◌^◌, List, [], ◌∷◌, ◌++◌, length, get_or, take, map, arith, inl, inr, refl, sym, subst, ap, ◌∙◌, Bool, true, false, cond, length-append, eqb}
use Rattle.std.specs.List.{All, AllPairs, Contains, list_any}
use Rattle.std.proofs.lemmas.Bool.{cases_lt, eqb-true}
use Rattle.std.proofs.lemmas.Bool.Decides.{eqb_tells, Decides-eqb}
use Rattle.std.proofs.lemmas.List.{length-map, get_or-map, get_or-take, get_or-append-add, length-take}
use Rattle.std.proofs.Math.Nat.{pow-succ'}
use Rattle.std.proofs.Math.Seq.{take-append-add}
use Rattle.std.proofs.lemmas.List.Elements.{Contains-append_right, Contains-get_or}
use Rattle.std.proofs.lemmas.List.Kept.{AllPairs-cons}
use Rattle.std.proofs.lemmas.Map.Made.{IsDistinct-from_AllPairs}
use Rattle.std.proofs.lemmas.Map.Steps.{length-le_from_distinct_below}
use Rattle.std.proofs.lemmas.Map.Views.{Contains-from_any}
use Rattle.ax_proof.specs.Literal.{Literal, literal, IsOver}
use Rattle.ax_proof.specs.Clause.{IsClause}
use Rattle.ax_proof.specs.Lines.{line_at, IsNew}
use Rattle.ax_proof.proofs.Lists.{Contains-here, Contains-there, Contains-cons_cases, Contains-none, Contains-map}
use Rattle.ax_proof.proofs.Literals.{same_literal}
use Rattle.ax_proof.proofs.Models.{new_has_no_subset}
use Rattle.ax_sat.specs.Answer.{AreNewFrom}

-- 1 for a variable, 2 for its negation
abbrev sign_digit : Bool → ℕ
sign_digit true = 1
sign_digit false = 2

-- the digit of the first literal of this variable, or 0
abbrev digit : List Literal → ℕ → ℕ
digit [] x = 0
digit (l ∷ ls) x = cond (eqb l.var x) (sign_digit l.positive) (digit ls x)

-- the digits of the variables up to a number, to base 3
abbrev number : List Literal → ℕ → ℕ
number ls zero = 0
number ls (suc n) = digit ls (suc n) + 3 * number ls n

sign_low : (p : Bool) → sign_digit p ≤ 2
sign_low true = omega arith
sign_low false = omega arith

digit_low : (c : List Literal) (x : ℕ) → digit c x ≤ 2
digit_low [] x = omega arith
digit_low (l ∷ ls) x =
    elim (eqb_tells l.var x) [
      | inl (t, e) ↦ rw t (sign_low l.positive)
      | inr (f, ne) ↦ rw f (digit_low ls x)
    ]

sign_some : (p : Bool) → 0 ≡ sign_digit p → ⊥
sign_some true e = absurd (omega arith)
sign_some false e = absurd (omega arith)

same_signs : (p q : Bool) → sign_digit p ≡ sign_digit q → p ≡ q
same_signs true true e = refl
same_signs false false e = refl
same_signs true false e = absurd (omega arith)
same_signs false true e = absurd (omega arith)

digit_stands : (c : List Literal) (x : ℕ) (p : Bool) → digit c x ≡ sign_digit p → Contains c (literal x p)
digit_stands [] x p e = absurd (sign_some p e)
digit_stands (l ∷ ls) x p e =
    elim (eqb_tells l.var x) [
      | inl (t, same) ↦
          let signs = rw t at e in
          let P : Literal → Type 0 = λ z. Contains (l ∷ ls) z in
          subst P (same_literal l (literal x p) same (same_signs l.positive p signs)) (Contains-here l ls)
      | inr (f, other) ↦ let rest = rw f at e in Contains-there l ls (literal x p) (digit_stands ls x p rest)
    ]

clause_tail : (y : Literal) (ys : List Literal) → IsClause (y ∷ ys) → IsClause ys
clause_tail y ys rising i j d ij jl = rising (suc i) (suc j) d (omega arith) (omega arith)

clause_first : (y : Literal) (ys : List Literal) (l : Literal) → IsClause (y ∷ ys) → Contains ys l → y.var < l.var
clause_first y ys l rising (k, kl, e) =
    let f : Literal → ℕ = λ z. z.var in
    let same : (get_or ys k l).var ≡ l.var = ap f e in
    let less : y.var < (get_or ys k l).var = rising 0 (suc k) l (omega arith) (omega arith) in
    omega arith

digit_is : (c : List Literal) (l : Literal) → IsClause c → Contains c l → digit c l.var ≡ sign_digit l.positive
digit_is [] l rising h = absurd (Contains-none l h)
digit_is (y ∷ ys) l rising h =
    elim (Contains-cons_cases y ys l h) [
      | inl e ↦
          let f : Literal → ℕ = λ z. z.var in
          let g : Literal → ℕ = λ z. sign_digit z.positive in
          let same : y.var ≡ l.var = sym (ap f e) in
          elim (eqb_tells y.var l.var) [
            | inl (t, q) ↦ rw t (sym (ap g e))
            | inr (t, q) ↦ absurd (q same)
          ]
      | inr r ↦
          let less : y.var < l.var = clause_first y ys l rising r in
          elim (eqb_tells y.var l.var) [
            | inl (t, q) ↦ absurd (omega arith)
            | inr (t, q) ↦ rw t (digit_is ys l (clause_tail y ys rising) r)
          ]
    ]

number_digits : (a b : List Literal) (n : ℕ) → number a n ≡ number b n → (x : ℕ) → 1 ≤ x → x ≤ n → digit a x ≡ digit b x
number_digits a b zero e x low high = absurd (omega arith)
number_digits a b (suc n) e x low high =
    let da = digit_low a (suc n) in
    let db = digit_low b (suc n) in
    let first : digit a (suc n) ≡ digit b (suc n) = omega arith in
    let rest : number a n ≡ number b n = omega arith in
    let P : ℕ → Type 0 = λ k. digit a k ≡ digit b k in
    elim (cases_lt x (suc n)) [
      | inl less ↦ number_digits a b n rest x low (omega arith)
      | inr more ↦ let here : suc n ≡ x = omega arith in subst P here first
    ]

number_low : (c : List Literal) (n : ℕ) → number c n < 3 ^ n
number_low c zero = omega arith
number_low c (suc n) =
    let d = digit_low c (suc n) in
    let before = number_low c n in
    let power : 3 ^ suc n ≡ 3 * 3 ^ n = pow-succ' 3 n in
    omega arith

-- lines of one number have the same literals
number_subset : (a b : List Literal) (n : ℕ) → IsClause a → IsOver n a → number a n ≡ number b n → (l : Literal) → Contains a l → Contains b l
number_subset a b n rising over e l h =
    let o = over l h in
    let same : digit a l.var ≡ digit b l.var = number_digits a b n e l.var o.0 o.1 in
    digit_stands b l.var l.positive (sym same ∙ digit_is a l rising h)

module _ (cs : List (List Literal)) (vars : ℕ) (old added : List (List Literal)) (over : All (IsOver vars) added) (rising : All IsClause added) (fresh : (k : ℕ) → k < length added → IsNew (cs ++ (old ++ take k added)) (get_or added k [])) where
  abbrev value : List Literal → ℕ
  value c = number c vars

  nothing_apart : (k : ℕ) → k < length added → value [] ≢ value (get_or added k [])
  nothing_apart k h e =
      let (l, others, same, lone, quiet, free) = fresh k h in
      let stands : Contains (get_or added k []) l = (same l).1 (Contains-here l others) in
      Contains-none l (number_subset (get_or added k []) [] vars (rising k [] h) (over k [] h) (sym e) l stands)

  both_apart : (i k : ℕ) → i < k → k < length added → value (get_or added i []) ≢ value (get_or added k [])
  both_apart i k ik h e =
      let before : Contains (take k added) (get_or added i []) =
      let P : List Literal → Type 0 = λ z. Contains (take k added) z in
      subst P (get_or-take k added i [] ik) (Contains-get_or (take k added) i [] (omega (arith, length-take k added)))
      in
      let there : Contains (cs ++ (old ++ take k added)) (get_or added i []) = Contains-append_right cs (old ++ take k added) _ (Contains-append_right old (take k added) _ before) in
      new_has_no_subset (cs ++ (old ++ take k added)) (get_or added k []) (get_or added i []) (fresh k h) there
      (number_subset (get_or added i []) (get_or added k []) vars (rising i [] (omega arith)) (over i [] (omega arith)) e)

  apart : AllPairs (λ (x y : ℕ). x ≢ y) (map value ([] ∷ added))
  apart =
      AllPairs-cons (λ (x y : ℕ). x ≢ y) (value []) (map value added)
      (λ k d h e. let n = length-map added value in nothing_apart k (omega arith) (e ∙ get_or-map value added k [] d (omega arith)))
      (λ i j d ij jl e. let n = length-map added value in both_apart i j ij (omega arith) (sym (get_or-map value added i [] d (omega arith)) ∙ e ∙ get_or-map value added j [] d (omega arith)))

  low : (q : ℕ) → list_any (eqb q) (map value ([] ∷ added)) ≡ true → q < 3 ^ vars
  low q h =
      let (c, cin, e) = Contains-map value ([] ∷ added) q (Contains-from_any eqb-true q (map value ([] ∷ added)) h) in
      let l = number_low c vars in
      omega arith

  pub few_lines : length added < 3 ^ vars
  few_lines =
      let most = length-le_from_distinct_below (map value ([] ∷ added)) (3 ^ vars) (IsDistinct-from_AllPairs Decides-eqb (map value ([] ∷ added)) apart) low in
      let n = length-map ([] ∷ added) value in
      omega arith

fresh_parts : (cs old added new : List (List Literal)) → new ≡ old ++ added → AreNewFrom cs (length old) new → (k : ℕ) → k < length added → IsNew (cs ++ (old ++ take k added)) (get_or added k [])
fresh_parts cs old added new same fresh k h =
    let P : List (List Literal) → Type 0 = λ z. AreNewFrom cs (length old) z in
    let n = length-append old added in
    let front : take (length old + k) (old ++ added) ≡ old ++ take k added = take-append-add old added k in
    let line : line_at (old ++ added) (length old + k) ≡ get_or added k [] = get_or-append-add old added k [] in
    let said = subst P same fresh (length old + k) (omega arith) (omega arith) in
    let now = rw (front, line) at said in
    now

All-append_right : {X : Type 0} (P : X → Type 0) (xs ys : List X) → All P (xs ++ ys) → All P ys
All-append_right P xs ys h k d lt =
    let n = length-append xs ys in
    let e : get_or (xs ++ ys) (length xs + k) d ≡ get_or ys k d = get_or-append-add xs ys k d in
    subst P e (h (length xs + k) d (omega arith))

-- the lines that are added, each new, are fewer than the clauses over their variables
pub few_new : (cs : List (List Literal)) (vars : ℕ) (old added new : List (List Literal)) → new ≡ old ++ added → All (IsOver vars) new → All IsClause added → AreNewFrom cs (length old) new → length added < 3 ^ vars
few_new cs vars old added new same over rising fresh =
    let P : List (List Literal) → Type 0 = λ z. All (IsOver vars) z in
    few_lines cs vars old added (All-append_right (IsOver vars) old added (subst P same over)) rising (fresh_parts cs old added new same fresh)
