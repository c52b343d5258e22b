-- Laws of clauses.
use Rattle.std.proofs.Common.{◌≡◌, ◌≢◌, ℕ, zero, suc, ◌+◌, ◌<◌, ◌≤◌, List, [], ◌∷◌, ◌++◌, length, get_or, take, Option, Some, None, arith, ◌⊎◌, inl, inr, refl, sym, subst, ap, ◌∙◌, ◌↔◌, Bool, true, false, not, cond, ◌*◌, ◌-◌}
use Rattle.std.specs.Prelude.{nat_lt, nat_eq, if◌then◌else◌}
use Rattle.std.specs.List.{All, AllPairs, Contains}
use Rattle.std.specs.List.Sorted.{IsPermutation, IsNonDecreasingBy}
use Rattle.std.proofs.lemmas.Bool.{cases_order, ltb-true, ltb-false, eqb-true, eq-eqb}
use Rattle.std.proofs.lemmas.List.{take_all, get_or-take, get_or_default, length-take}
use Rattle.std.proofs.lemmas.List.Sorted.{Contains-permutation, IsPermutation-sym}
use Rattle.std.proofs.lemmas.List.Elements.{Contains-append_left, Contains-push, Contains-push_cases, Contains-get_or}
use Rattle.ax_proof.specs.Literal.{Literal, negation, code_of, IsBelow}
use Rattle.ax_proof.specs.Clause.{IsClause, Clashes, SameLiterals, Adds, same_sign, put_first, with_literal, with_literal_too, clause_of}
use Rattle.ax_proof.proofs.Lists.{Contains-here, Contains-there, Contains-cons_cases, Contains-none, Contains-take, took}
use Rattle.ax_proof.proofs.Literals.{same_literal, once_consistent, negation_twice}

pub rising_once : (c : List Literal) → IsClause c → AllPairs (λ a b. a.var ≢ b.var) c
rising_once c rising i j d lt jl e = let h : (get_or c i d).var < (get_or c j d).var = rising i j d lt jl in omega arith

-- no literal of a clause stands with its negation
pub clause_does_not_clash : (c : List Literal) → IsClause c → Clashes c → ⊥
clause_does_not_clash c rising (l, p, n) = once_consistent c (rising_once c rising) l p n

pub rising_tail : (m : Literal) (c : List Literal) → IsClause (m ∷ c) → IsClause c
rising_tail m c rising i j d lt jl = rising (suc i) (suc j) d (omega arith) (omega arith)

pub rising_head : (m : Literal) (c : List Literal) → IsClause (m ∷ c) → (l : Literal) → Contains c l → m.var < l.var
rising_head m c rising l (k, kl, e) =
    let f : Literal → ℕ = λ x. x.var in
    let less : m.var < (get_or c k l).var = rising 0 (suc k) l (omega arith) (omega arith) in
    let same : (get_or c k l).var ≡ l.var = ap f e in
    omega arith

pub rising_cons : (m : Literal) (c : List Literal) → ((l : Literal) → Contains c l → m.var < l.var) → IsClause c → IsClause (m ∷ c)
rising_cons m c above rising zero zero d lt jl = absurd (omega arith)
rising_cons m c above rising zero (suc j) d lt jl = above (get_or c j d) (Contains-get_or c j d (omega arith))
rising_cons m c above rising (suc i) zero d lt jl = absurd (omega arith)
rising_cons m c above rising (suc i) (suc j) d lt jl = rising i j d (omega arith) (omega arith)

-- a clause is known by its literals
module _ (x y : Literal) (c d : List Literal) (cr : IsClause (x ∷ c)) (dr : IsClause (y ∷ d)) (same : SameLiterals (x ∷ c) (y ∷ d)) where
  same_head : x ≡ y
  same_head =
      elim (Contains-cons_cases y d x ((same x).0 (Contains-here x c))) [
        | inl e ↦ e
        | inr in_d ↦ elim (Contains-cons_cases x c y ((same y).1 (Contains-here y d))) [
          | inl e ↦ sym e
          | inr in_c ↦
              let a : y.var < x.var = rising_head y d dr x in_d in
              let b : x.var < y.var = rising_head x c cr y in_c in
              absurd (omega arith)
        ]
      ]

  same_tail : SameLiterals c d
  same_tail l =
      let f : Literal → ℕ = λ z. z.var in
      let heads : x.var ≡ y.var = ap f same_head in (
        (λ h. elim (Contains-cons_cases y d l ((same l).0 (Contains-there x c l h))) [
          | inr q ↦ q
          | inl e ↦ let lv : l.var ≡ y.var = ap f e in let less : x.var < l.var = rising_head x c cr l h in absurd (omega arith)
        ]),
        (λ h. elim (Contains-cons_cases x c l ((same l).1 (Contains-there y d l h))) [
          | inr q ↦ q
          | inl e ↦ let lv : l.var ≡ x.var = ap f e in let less : y.var < l.var = rising_head y d dr l h in absurd (omega arith)
        ]),
      )

pub clause_unique : (c d : List Literal) → IsClause c → IsClause d → SameLiterals c d → c ≡ d
clause_unique [] [] cr dr same = refl
clause_unique [] (y ∷ d) cr dr same = absurd (Contains-none y ((same y).1 (Contains-here y d)))
clause_unique (x ∷ c) [] cr dr same = absurd (Contains-none x ((same x).0 (Contains-here x c)))
clause_unique (x ∷ c) (y ∷ d) cr dr same =
    let rest : c ≡ d = clause_unique c d (rising_tail x c cr) (rising_tail y d dr) (same_tail x y c d cr dr same) in
    ap (λ (z : Literal). z ∷ c) (same_head x y c d cr dr same) ∙ ap (λ (z : List Literal). y ∷ z) rest

-- what `with_literal` answers
abbrev pub MatchPut : Literal → List Literal → Option (List Literal) → Type 0
MatchPut l c None = Contains c (negation l)
MatchPut l c (Some d) = IsClause d × Adds c l d

signs_same : (p q : Bool) → same_sign p q ≡ true → p ≡ q
signs_same true q e = sym e
signs_same false true e = cc
signs_same false false e = refl

signs_differ : (p q : Bool) → same_sign p q ≡ false → not p ≡ q
signs_differ true q e = sym e
signs_differ false true e = refl
signs_differ false false e = cc

module _ (l m : Literal) (c : List Literal) (rising : IsClause (m ∷ c)) where
  put_before : l.var < m.var → MatchPut l (m ∷ c) (Some (l ∷ m ∷ c))
  put_before less =
      let f : Literal → ℕ = λ z. z.var in
      let above : (x : Literal) → Contains (m ∷ c) x → l.var < x.var = λ x h.
      elim (Contains-cons_cases m c x h) [
        | inl e ↦ let xv : x.var ≡ m.var = ap f e in omega arith
        | inr q ↦ let q' : m.var < x.var = rising_head m c rising x q in omega arith
      ]
      in
      let P : Literal → Type 0 = λ z. Contains (l ∷ m ∷ c) z in (
        rising_cons l (m ∷ c) above rising,
        λ x. (
          (λ h. elim (Contains-cons_cases l (m ∷ c) x h) [ inl e ↦ inr e | inr q ↦ inl q ]),
          (λ h. elim h [ inl q ↦ Contains-there l (m ∷ c) x q | inr e ↦ subst P (sym e) (Contains-here l (m ∷ c)) ]),
        ),
      )

  put_there : l ≡ m → MatchPut l (m ∷ c) (Some (m ∷ c))
  put_there same =
      let P : Literal → Type 0 = λ z. Contains (m ∷ c) z in (
        rising,
        λ x. (
          (λ h. inl h),
          (λ h. elim h [ inl q ↦ q | inr e ↦ subst P (sym (e ∙ same)) (Contains-here m c) ]),
        ),
      )

  put_clash : negation l ≡ m → MatchPut l (m ∷ c) None
  put_clash e = let P : Literal → Type 0 = λ z. Contains (m ∷ c) z in subst P (sym e) (Contains-here m c)

  put_after : m.var < l.var → (o : Option (List Literal)) → MatchPut l c o → MatchPut l (m ∷ c) (put_first m o)
  put_after less None clash = Contains-there m c (negation l) clash
  put_after less (Some d) (dr, adds) =
      let f : Literal → ℕ = λ z. z.var in
      let above : (x : Literal) → Contains d x → m.var < x.var = λ x h.
      elim ((adds x).0 h) [
        | inl q ↦ rising_head m c rising x q
        | inr e ↦ let xv : x.var ≡ l.var = ap f e in omega arith
      ]
      in
      let P : Literal → Type 0 = λ z. Contains (m ∷ d) z in (
        rising_cons m d above dr,
        λ x. (
          (λ h. elim (Contains-cons_cases m d x h) [
            | inl e ↦ let Q : Literal → Type 0 = λ z. Contains (m ∷ c) z in inl (subst Q (sym e) (Contains-here m c))
            | inr q ↦ elim ((adds x).0 q) [ inl r ↦ inl (Contains-there m c x r) | inr e ↦ inr e ]
          ]),
          (λ h. elim h [
            | inl q ↦ elim (Contains-cons_cases m c x q) [
              | inl e ↦ subst P (sym e) (Contains-here m d)
              | inr r ↦ Contains-there m d x ((adds x).1 (inl r))
            ]
            | inr e ↦ Contains-there m d x ((adds x).1 (inr e))
          ]),
        ),
      )

  put_by : MatchPut l c (with_literal l c) → (a b s : Bool) → nat_lt l.var m.var ≡ a → nat_eq l.var m.var ≡ b → same_sign l.positive m.positive ≡ s
      → MatchPut l (m ∷ c) (if a then Some (l ∷ m ∷ c) else if b then (if s then Some (m ∷ c) else None) else put_first m (with_literal l c))
  put_by rest true b s e f g = put_before (ltb-true l.var m.var e)
  put_by rest false true true e f g = put_there (same_literal l m (eqb-true l.var m.var f) (signs_same l.positive m.positive g))
  put_by rest false true false e f g = put_clash (same_literal (negation l) m (eqb-true l.var m.var f) (signs_differ l.positive m.positive g))
  put_by rest false false s e f g =
      let at_least : m.var ≤ l.var = ltb-false l.var m.var e in
      let apart : l.var ≡ m.var → ⊥ = λ q. let t : nat_eq l.var m.var ≡ true = eq-eqb l.var m.var q in cc in
      put_after (grind arith) (with_literal l c) rest

pub put_says : (l : Literal) (c : List Literal) → IsClause c → MatchPut l c (with_literal l c)
put_says l [] rising = (
  (λ i j d lt jl. absurd (omega arith)),
  λ x. (
    (λ h. elim (Contains-cons_cases l [] x h) [ inl e ↦ inr e | inr q ↦ inl q ]),
    (λ h. elim h [ inl q ↦ absurd (Contains-none x q) | inr e ↦ let P : Literal → Type 0 = λ z. Contains (l ∷ []) z in subst P (sym e) (Contains-here l []) ]),
  ),
)
put_says l (m ∷ c) rising =
    put_by l m c rising (put_says l c (rising_tail m c rising)) (nat_lt l.var m.var) (nat_eq l.var m.var) (same_sign l.positive m.positive) refl refl refl

-- what `clause_of` answers
abbrev pub MatchClause : List Literal → Option (List Literal) → Type 0
MatchClause ls None = Clashes ls
MatchClause ls (Some c) = IsClause c × SameLiterals ls c

module _ (l : Literal) (ls : List Literal) where
  clause_put : (c : List Literal) → SameLiterals ls c → (o : Option (List Literal)) → MatchPut l c o → MatchClause (l ∷ ls) o
  clause_put c same None clash = (l, Contains-here l ls, Contains-there l ls (negation l) ((same (negation l)).1 clash))
  clause_put c same (Some d) (dr, adds) = (
    dr,
    λ x. (
      (λ h. elim (Contains-cons_cases l ls x h) [ inl e ↦ (adds x).1 (inr e) | inr q ↦ (adds x).1 (inl ((same x).0 q)) ]),
      (λ h. elim ((adds x).0 h) [
        | inl q ↦ Contains-there l ls x ((same x).1 q)
        | inr e ↦ let P : Literal → Type 0 = λ z. Contains (l ∷ ls) z in subst P (sym e) (Contains-here l ls)
      ]),
    ),
  )

  clause_more : (o : Option (List Literal)) → MatchClause ls o → MatchClause (l ∷ ls) (with_literal_too l o)
  clause_more None (x, p, n) = (x, Contains-there l ls x p, Contains-there l ls (negation x) n)
  clause_more (Some c) (rising, same) = clause_put c same (with_literal l c) (put_says l c rising)

pub clause_of_says : (ls : List Literal) → MatchClause ls (clause_of ls)
clause_of_says [] = ((λ i j d lt jl. absurd (omega arith)), λ x. ((λ h. h), (λ h. h)))
clause_of_says (l ∷ ls) = clause_more l ls (clause_of ls) (clause_of_says ls)

pub clash_of_same : (xs ys : List Literal) → SameLiterals xs ys → Clashes xs → Clashes ys
clash_of_same xs ys same (l, p, n) = (l, (same l).0 p, (same (negation l)).0 n)

made_by : (ls c : List Literal) → IsClause c → SameLiterals ls c → (o : Option (List Literal)) → MatchClause ls o → Some c ≡ o
made_by ls c rising same None clash = absurd (clause_does_not_clash c rising (clash_of_same ls c same clash))
made_by ls c rising same (Some d) (dr, other) =
    let both : SameLiterals c d = λ l. ((λ h. (other l).0 ((same l).1 h)), (λ h. (same l).0 ((other l).1 h))) in
    ap (λ (z : List Literal). Some z) (clause_unique c d rising dr both)

-- the clause of these literals is the one clause that has them
pub clause_of_same : (ls c : List Literal) → IsClause c → SameLiterals ls c → Some c ≡ clause_of ls
clause_of_same ls c rising same = made_by ls c rising same (clause_of ls) (clause_of_says ls)

none_by : (ls : List Literal) → Clashes ls → (o : Option (List Literal)) → MatchClause ls o → None ≡ o
none_by ls clash None h = refl
none_by ls clash (Some c) (rising, same) = absurd (clause_does_not_clash c rising (clash_of_same ls c same clash))

pub clause_of_clash : (ls : List Literal) → Clashes ls → None ≡ clause_of ls
clause_of_clash ls clash = none_by ls clash (clause_of ls) (clause_of_says ls)

-- a rising list is its own clause
pub clause_of_clause : (c : List Literal) → IsClause c → Some c ≡ clause_of c
clause_of_clause c rising = clause_of_same c c rising (λ l. ((λ h. h), (λ h. h)))

halves : (v w : ℕ) (p q : Bool) → 2 * v + cond p 0 1 ≤ 2 * w + cond q 0 1 → v ≤ w
halves v w true true h = omega arith
halves v w true false h = omega arith
halves v w false true h = omega arith
halves v w false false h = omega arith

-- the literals in the order of their codes, taken one after another
module _ (ls all c : List Literal) (i : ℕ) (lit : Literal) (within : i < length all) (here : lit ≡ get_or all i lit) (same : SameLiterals (take i all) c) where
  pub none_above : IsNonDecreasingBy code_of all → All (λ l. l.var ≤ lit.var) c
  none_above sorted k d kl =
      let x : Literal = get_or c k d in
      let (j, jl, e) = (same x).1 (Contains-get_or c k d kl) in
      let ji : j < i = omega (arith, length-take i all) in
      let f : Literal → ℕ = λ z. z.var in
      let at_j : (get_or all j x).var ≡ x.var = ap f (sym (get_or-take i all j x ji) ∙ e) in
      let at_i : (get_or all i x).var ≡ lit.var = ap f (get_or_default all i x lit within ∙ sym here) in
      let h : (get_or all j x).var ≤ (get_or all i x).var =
      halves (get_or all j x).var (get_or all i x).var (get_or all j x).positive (get_or all i x).positive (sorted j i x (omega arith) within)
      in
      omega arith

  pub same_more : (d : List Literal) → Adds c lit d → SameLiterals (take (i + 1) all) d
  same_more d adds = rw (took all i lit within here) (λ l. (
    (λ h. elim (Contains-push_cases (take i all) lit l h) [
      | inl q ↦ (adds l).1 (inl ((same l).0 q))
      | inr q ↦ (adds l).1 (inr (sym q))
    ]),
    (λ h. elim ((adds l).0 h) [
      | inl q ↦ Contains-append_left (take i all) (lit ∷ []) l ((same l).1 q)
      | inr q ↦ let P : Literal → Type 0 = λ z. Contains (take i all ++ lit ∷ []) z in subst P (sym q) (Contains-push (take i all) lit)
    ]),
  ))

  pub clash_found : IsPermutation ls all → Contains c (negation lit) → Clashes ls
  clash_found moved h =
      let back = λ (x : Literal) (q : Contains all x). Contains-permutation all ls x (IsPermutation-sym ls all moved) q in
      (lit, back lit (i, within, sym here), back (negation lit) (Contains-take all i (negation lit) ((same (negation lit)).1 h)))

pub same_when_all : (ls all c : List Literal) (i : ℕ) → length all ≤ i → IsPermutation ls all → SameLiterals (take i all) c → SameLiterals ls c
same_when_all ls all c i past moved same =
    let whole : SameLiterals all c = rw take_all at same in
    λ l. (
      (λ h. (whole l).0 (Contains-permutation ls all l moved h)),
      (λ h. Contains-permutation all ls l (IsPermutation-sym ls all moved) ((whole l).1 h)),
    )

-- the last literal has the greatest variable
pub last_is_highest : (c : List Literal) (last : Literal) → 0 < length c → last ≡ get_or c (length c - 1) last → IsClause c → IsBelow (last.var + 1) c
last_is_highest c last some here rising l (k, kl, e) =
    let f : Literal → ℕ = λ z. z.var in
    let at_k : (get_or c k l).var ≡ l.var = ap f e in
    let at_end : (get_or c (length c - 1) l).var ≡ last.var = ap f (get_or_default c (length c - 1) l last (omega arith) ∙ sym here) in
    elim (cases_order k (length c - 1)) [
      | inl q ↦ let g : ℕ → ℕ = λ n. (get_or c n l).var in let same : (get_or c k l).var ≡ (get_or c (length c - 1) l).var = ap g q in omega arith
      | inr (inl lt) ↦ let less : (get_or c k l).var < (get_or c (length c - 1) l).var = rising k (length c - 1) l lt (omega arith) in omega arith
      | inr (inr gt) ↦ absurd (omega arith)
    ]
