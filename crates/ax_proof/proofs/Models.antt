-- What assignments satisfy.
use Rattle.std.proofs.Common.{◌≡◌, ◌≢◌, ℕ, zero, suc, ◌+◌, ◌≤◌, List, [], ◌∷◌, ◌++◌, length, take, map, arith, ◌⊎◌, inl, inr, refl, sym, subst, ap, ◌∙◌, Bool, true, false, not, ◌&&◌, ◌||◌, Option, Some, None}
use Rattle.std.specs.List.{Contains}
use Rattle.std.proofs.lemmas.List.{take_more, take_all}
use Rattle.std.proofs.lemmas.List.Elements.{Contains-push}
use Rattle.ax_proof.specs.Literal.{Literal, negation}
use Rattle.ax_proof.specs.Clause.{SameLiterals, Clashes, clause_of}
use Rattle.ax_proof.specs.Assignment.{signed, lit_value, clause_true, option_true, satisfies}
use Rattle.ax_proof.specs.Propagation.{Propagates, given, unit, Conflicts, HasRup}
use Rattle.ax_proof.specs.Lines.{line_at, IsLawful}
use Rattle.ax_proof.specs.Laws.{ForcedHolds, LawfulHolds, ProofRefutes, NewIsNotEmpty, NewHasNoSubset, RightIsLawful, OwnVariablesDecide}
use Rattle.ax_proof.proofs.Lists.{Contains-here, Contains-there, Contains-cons_cases, Contains-none, Contains-map, Contains-mapped}
use Rattle.ax_proof.proofs.Literals.{same_or_other}
use Rattle.ax_proof.proofs.Clauses.{MatchClause, clause_of_says}
use Rattle.ax_proof.proofs.Rights.{right_lawful}

signed_not : (p b : Bool) → signed (not p) b ≡ not (signed p b)
signed_not true b = refl
signed_not false true = refl
signed_not false false = refl

pub lit_negation : (v : ℕ → Bool) (l : Literal) → lit_value v (negation l) ≡ not (lit_value v l)
lit_negation v l = signed_not l.positive (v l.var)

not_both : (b : Bool) → b ≡ true → not b ≡ true → ⊥
not_both true e f = cc
not_both false e f = cc

not_false : (b : Bool) → b ≡ false → not b ≡ true
not_false true e = cc
not_false false e = refl

pub true_or_false : (b : Bool) → (b ≡ true) ⊎ (b ≡ false)
true_or_false true = inl refl
true_or_false false = inr refl

or_cases : (a b : Bool) → (a || b) ≡ true → (a ≡ true) ⊎ (b ≡ true)
or_cases true b e = inl refl
or_cases false b e = inr e

or_right : (a : Bool) → (a || true) ≡ true
or_right true = refl
or_right false = refl

or_left : (a b : Bool) → a ≡ true → (a || b) ≡ true
or_left true b e = refl
or_left false b e = cc

and_left : (a b : Bool) → (a && b) ≡ true → a ≡ true
and_left true b e = refl
and_left false b e = cc

and_right : (a b : Bool) → (a && b) ≡ true → b ≡ true
and_right true b e = e
and_right false b e = cc

and_both : (a b : Bool) → a ≡ true → b ≡ true → (a && b) ≡ true
and_both true b e f = f
and_both false b e f = cc

module _ (v : ℕ → Bool) where
  pub clause_has : (c : List Literal) → clause_true v c ≡ true → (l : Literal) × Contains c l × (lit_value v l ≡ true)
  clause_has [] e = absurd (cc)
  clause_has (x ∷ c) e =
      elim (or_cases (lit_value v x) (clause_true v c) e) [
        | inl here ↦ (x, Contains-here x c, here)
        | inr rest ↦ let (l, lin, h) = clause_has c rest in (l, Contains-there x c l lin, h)
      ]

  pub clause_made : (c : List Literal) (l : Literal) → Contains c l → lit_value v l ≡ true → clause_true v c ≡ true
  clause_made [] l h e = absurd (Contains-none l h)
  clause_made (x ∷ c) l h e =
      elim (Contains-cons_cases x c l h) [
        | inl same ↦ let P : Literal → Type 0 = λ z. lit_value v z ≡ true in or_left (lit_value v x) (clause_true v c) (subst P same e)
        | inr rest ↦ let made : clause_true v c ≡ true = clause_made c l rest e in ap (λ (b : Bool). lit_value v x || b) made ∙ or_right (lit_value v x)
      ]

  pub satisfied_clause : (cs : List (List Literal)) (c : List Literal) → satisfies v cs ≡ true → Contains cs c → clause_true v c ≡ true
  satisfied_clause [] c e h = absurd (Contains-none c h)
  satisfied_clause (x ∷ cs) c e h =
      elim (Contains-cons_cases x cs c h) [
        | inl same ↦ let P : List Literal → Type 0 = λ z. clause_true v z ≡ true in subst P (sym same) (and_left (clause_true v x) (satisfies v cs) e)
        | inr rest ↦ satisfied_clause cs c (and_right (clause_true v x) (satisfies v cs) e) rest
      ]

  pub satisfies_both : (cs ds : List (List Literal)) → satisfies v cs ≡ true → satisfies v ds ≡ true → satisfies v (cs ++ ds) ≡ true
  satisfies_both [] ds e f = f
  satisfies_both (c ∷ cs) ds e f =
      and_both (clause_true v c) (satisfies v (cs ++ ds)) (and_left (clause_true v c) (satisfies v cs) e)
      (satisfies_both cs ds (and_right (clause_true v c) (satisfies v cs) e) f)

  module _ (cs : List (List Literal)) (model : satisfies v cs ≡ true) (assumed : List Literal) (known : (m : Literal) → Contains assumed m → lit_value v m ≡ true) where
    pub forced_true : {l : Literal} → Propagates cs assumed l → lit_value v l ≡ true
    forced_true (given {l} h) = known l h
    forced_true (unit {l} c cin lin rest) =
        let (x, xin, xtrue) = clause_has c (satisfied_clause cs c model cin) in
        elim (same_or_other x l) [
          | inl same ↦ let P : Literal → Type 0 = λ z. lit_value v z ≡ true in subst P same xtrue
          | inr other ↦ absurd (not_both (lit_value v x) xtrue (sym (lit_negation v x) ∙ forced_true (rest x xin other)))
        ]

    pub no_conflict : Conflicts cs assumed → ⊥
    no_conflict (c, cin, made) =
        let (x, xin, xtrue) = clause_has c (satisfied_clause cs c model cin) in
        not_both (lit_value v x) xtrue (sym (lit_negation v x) ∙ forced_true (made x xin))

  -- a line with reverse unit propagation holds
  pub rup_true : (cs : List (List Literal)) (line : List Literal) → satisfies v cs ≡ true → HasRup cs line → clause_true v line ≡ true
  rup_true cs line model rup =
      elim (true_or_false (clause_true v line)) [
        | inl held ↦ held
        | inr broken ↦
            let denied : (m : Literal) → Contains (map negation line) m → lit_value v m ≡ true = λ m h.
            let (l, lin, same) = Contains-map negation line m h in
            let P : Literal → Type 0 = λ z. lit_value v z ≡ true in
            elim (true_or_false (lit_value v l)) [
              | inl holds ↦ let made : clause_true v line ≡ true = clause_made line l lin holds in absurd (cc)
              | inr fails ↦ subst P same (lit_negation v l ∙ not_false (lit_value v l) fails)
            ]
            in
            absurd (no_conflict cs model (map negation line) denied rup)
      ]

  lawful_front : (cs lines : List (List Literal)) → satisfies v cs ≡ true → IsLawful cs lines → (n : ℕ) → n ≤ length lines → satisfies v (take n lines) ≡ true
  lawful_front cs lines model lawful zero h = refl
  lawful_front cs lines model lawful (suc n) h =
      let before : satisfies v (take n lines) ≡ true = lawful_front cs lines model lawful n (omega arith) in
      let line : clause_true v (line_at lines n) ≡ true = rup_true (cs ++ take n lines) (line_at lines n) (satisfies_both cs (take n lines) model before) (lawful n (omega arith)) in
      let same : take (suc n) lines ≡ take n lines ++ line_at lines n ∷ [] = let e : suc n ≡ n + 1 = omega arith in rw e (take_more lines n [] (omega arith)) in
      let P : List (List Literal) → Type 0 = λ z. satisfies v z ≡ true in
      subst P (sym same) (satisfies_both (take n lines) (line_at lines n ∷ []) before (and_both (clause_true v (line_at lines n)) true line refl))

  pub lawful_true : (cs lines : List (List Literal)) → satisfies v cs ≡ true → IsLawful cs lines → satisfies v lines ≡ true
  lawful_true cs lines model lawful =
      let P : List (List Literal) → Type 0 = λ z. satisfies v z ≡ true in
      subst P (take_all (length lines) lines (omega arith)) (lawful_front cs lines model lawful (length lines) (omega arith))

pub forced_holds : ForcedHolds
forced_holds v clauses assumed l model known h = forced_true v clauses model assumed known h

pub lawful_holds : LawfulHolds
lawful_holds v clauses lines lawful model = lawful_true v clauses lines model lawful

pub proof_refutes : ProofRefutes
proof_refutes v clauses lines (lawful, (before, same, others)) model =
    let all : satisfies v lines ≡ true = lawful_true v clauses lines model lawful in
    let stands : Contains lines [] =
    let P : List (List Literal) → Type 0 = λ z. Contains z [] in subst P (sym same) (Contains-push before [])
    in
    let held : clause_true v [] ≡ true = satisfied_clause v lines [] all stands in
    cc

pub new_is_not_empty : NewIsNotEmpty
new_is_not_empty clauses line (l, others, same, apart, no_clash, not_forced) e =
    let P : List Literal → Type 0 = λ z. Contains z l in
    Contains-none l (subst P e ((same l).1 (Contains-here l others)))

contains_or_not : (c : List Literal) (l : Literal) → Contains c l ⊎ (Contains c l → ⊥)
contains_or_not [] l = inr (λ h. Contains-none l h)
contains_or_not (x ∷ c) l =
    elim (same_or_other l x) [
      | inl same ↦ let P : Literal → Type 0 = λ z. Contains (x ∷ c) z in inl (subst P (sym same) (Contains-here x c))
      | inr other ↦ elim (contains_or_not c l) [
        | inl h ↦ inl (Contains-there x c l h)
        | inr none ↦ inr (λ h. elim (Contains-cons_cases x c l h) [ inl e ↦ other e | inr q ↦ none q ])
      ]
    ]

pub new_has_no_subset : NewHasNoSubset
new_has_no_subset clauses line c (l, others, same, apart, no_clash, not_forced) cin subset =
    let among : (m : Literal) → Contains c m → m ≢ l → Contains others m = λ m min ne.
    elim (Contains-cons_cases l others m ((same m).0 (subset m min))) [ inl e ↦ absurd (ne e) | inr q ↦ q ]
    in
    let denied : (m : Literal) → Contains others m → Propagates clauses (map negation others) (negation m) = λ m h. given (Contains-mapped negation others m h) in
    elim (contains_or_not c l) [
      | inl lin ↦ not_forced (unit c cin lin (λ m min ne. denied m (among m min ne)))
      | inr none ↦
          no_clash (c, cin, λ m min. denied m (among m min (λ e. let P : Literal → Type 0 = λ z. Contains c z in none (subst P e min))))
    ]

pub right_is_lawful : RightIsLawful
right_is_lawful clauses lines uses right at within = right_lawful _ _ _ (right at within)

-- clauses with the same literals have one value
pub clause_true_same : (v : ℕ → Bool) (xs ys : List Literal) → SameLiterals xs ys → clause_true v xs ≡ clause_true v ys
clause_true_same v xs ys same =
    elim (true_or_false (clause_true v xs)) [
      | inl x ↦ let (l, lin, h) = clause_has v xs x in x ∙ sym (clause_made v ys l ((same l).0 lin) h)
      | inr x ↦ elim (true_or_false (clause_true v ys)) [
        | inr y ↦ x ∙ sym y
        | inl y ↦ let (l, lin, h) = clause_has v ys y in let made : clause_true v xs ≡ true = clause_made v xs l ((same l).1 lin) h in absurd (cc)
      ]
    ]

-- a literal or its negation is true
clash_true : (v : ℕ → Bool) (ls : List Literal) → Clashes ls → clause_true v ls ≡ true
clash_true v ls (l, p, n) =
    elim (true_or_false (lit_value v l)) [
      | inl holds ↦ clause_made v ls l p holds
      | inr fails ↦ clause_made v ls (negation l) n (lit_negation v l ∙ not_false (lit_value v l) fails)
    ]

option_value : (v : ℕ → Bool) (ls : List Literal) (o : Option (List Literal)) → MatchClause ls o → option_true v o ≡ clause_true v ls
option_value v ls None clash = sym (clash_true v ls clash)
option_value v ls (Some c) (rising, same) = sym (clause_true_same v ls c same)

-- the clause of some literals has their value, and where there is none, they hold in every assignment
pub clause_of_true : (v : ℕ → Bool) (ls : List Literal) → option_true v (clause_of ls) ≡ clause_true v ls
clause_of_true v ls = option_value v ls (clause_of ls) (clause_of_says ls)

agree_head : (v w : ℕ → Bool) (x : Literal) (c : List Literal) → ((l : Literal) → Contains (x ∷ c) l → v l.var ≡ w l.var) → lit_value v x ≡ lit_value w x
agree_head v w x c agree = let P : Bool → Bool = λ b. signed x.positive b in ap P (agree x (Contains-here x c))

clause_agrees : (v w : ℕ → Bool) (c : List Literal) → ((l : Literal) → Contains c l → v l.var ≡ w l.var) → clause_true v c ≡ clause_true w c
clause_agrees v w [] agree = refl
clause_agrees v w (x ∷ c) agree =
    ap (λ (b : Bool). b || clause_true v c) (agree_head v w x c agree)
    ∙ ap (λ (b : Bool). lit_value w x || b) (clause_agrees v w c (λ l lin. agree l (Contains-there x c l lin)))

pub own_variables_decide : OwnVariablesDecide
own_variables_decide v w [] agree = refl
own_variables_decide v w (c ∷ cs) agree =
    ap (λ (b : Bool). b && satisfies v cs) (clause_agrees v w c (λ l lin. agree c l (Contains-here c cs) lin))
    ∙ ap (λ (b : Bool). clause_true w c && b) (own_variables_decide v w cs (λ d l din lin. agree d l (Contains-there c cs d din) lin))
