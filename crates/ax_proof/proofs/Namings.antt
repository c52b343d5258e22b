-- Unit propagation over variables that stand for others.
use Rattle.std.proofs.Common.{◌≡◌, ◌↔◌, ℕ, zero, suc, ◌<◌, List, [], ◌∷◌, ◌++◌, length, take, map, arith, inl, inr, refl, sym, subst, ap, ◌∙◌, Bool}
use Rattle.std.specs.List.{All, Contains}
use Rattle.std.proofs.lemmas.List.{map-append, length-map, take-map, get_or-map, map_push}
use Rattle.std.proofs.lemmas.List.Elements.{All-contains, All-append, All-take, Contains-push_cases}
use Rattle.ax_proof.specs.Literal.{Literal, negation, IsBelow}
use Rattle.ax_proof.specs.Propagation.{Propagates, given, unit, Conflicts, HasRup}
use Rattle.ax_proof.specs.Lines.{line_at, IsLawful, IsFirstUnlawful}
use Rattle.ax_proof.specs.Trail.{IsFalsified, IsUnit}
use Rattle.ax_proof.specs.Uses.{numbered, IsNumber, Refutes, final, then, IsRight, uses_at, AreRight}
use Rattle.ax_proof.specs.Naming.{renamed_lit, renamed, all_renamed, IsOneToOne, StandFor}
use Rattle.ax_proof.specs.Laws.{NamesDoNotCount}
use Rattle.ax_proof.proofs.Lists.{Contains-map, Contains-mapped}
use Rattle.ax_proof.proofs.Literals.{same_literal}

pub denied_renamed : (f : ℕ → ℕ) (line : List Literal) → map negation (renamed f line) ≡ renamed f (map negation line)
denied_renamed f [] = refl
denied_renamed f (l ∷ ls) = ap (λ (z : List Literal). renamed_lit f (negation l) ∷ z) (denied_renamed f ls)

pub negated_below : (size : ℕ) (line : List Literal) → IsBelow size line → IsBelow size (map negation line)
negated_below size line below l h =
    let (n, nin, e) = Contains-map negation line l h in
    let f : Literal → ℕ = λ x. x.var in
    let same : n.var ≡ l.var = ap f e in
    let b : n.var < size = below n nin in
    omega arith

-- what propagates does so under any names
propagates_renamed : (f : ℕ → ℕ) (cs : List (List Literal)) (xs : List Literal) {l : Literal} → Propagates cs xs l → Propagates (all_renamed f cs) (renamed f xs) (renamed_lit f l)
propagates_renamed f cs xs (given {l} h) = given (Contains-mapped (renamed_lit f) xs l h)
propagates_renamed f cs xs (unit {l} c cin lin rest) =
    let to : Literal → Literal = renamed_lit f in
    unit (renamed f c) (Contains-mapped (renamed f) cs c cin) (Contains-mapped (renamed_lit f) c l lin) (λ m min ne.
    let (n, nin, e) = Contains-map (renamed_lit f) c m min in
    let P : Literal → Type 0 = λ x. Propagates (all_renamed f cs) (renamed f xs) (negation x) in
    subst P e (propagates_renamed f cs xs (rest n nin (λ q. ne (sym e ∙ ap to q)))))

conflicts_renamed : (f : ℕ → ℕ) (cs : List (List Literal)) (xs : List Literal) → Conflicts cs xs → Conflicts (all_renamed f cs) (renamed f xs)
conflicts_renamed f cs xs (c, cin, made) = (
  renamed f c,
  Contains-mapped (renamed f) cs c cin,
  λ m min.
      let (n, nin, e) = Contains-map (renamed_lit f) c m min in
      let P : Literal → Type 0 = λ x. Propagates (all_renamed f cs) (renamed f xs) (negation x) in
      subst P e (propagates_renamed f cs xs (made n nin)),
)

module _ (f : ℕ → ℕ) (size : ℕ) (apart : IsOneToOne f size) where
  pub same_named : (a b : Literal) → a.var < size → b.var < size → renamed_lit f a ≡ renamed_lit f b → a ≡ b
  same_named a b al bl e =
      let var : Literal → ℕ = λ x. x.var in
      let sign : Literal → Bool = λ x. x.positive in
      same_literal a b (apart a.var b.var al bl (ap var e)) (ap sign e)

  -- a literal of a list under other names is one of the list
  pub named_among : (xs : List Literal) (l : Literal) → IsBelow size xs → l.var < size → Contains (renamed f xs) (renamed_lit f l) → Contains xs l
  named_among xs l below lb h =
      let (n, nin, e) = Contains-map (renamed_lit f) xs (renamed_lit f l) h in
      let P : Literal → Type 0 = λ x. Contains xs x in
      subst P (same_named n l (below n nin) lb e) nin

  module _ (cs : List (List Literal)) (xs : List Literal) (below : All (IsBelow size) cs) (start : IsBelow size xs) where
    comes : {m : Literal} → Propagates (all_renamed f cs) (renamed f xs) m → (l : Literal) × (l.var < size) × (renamed_lit f l ≡ m) × Propagates cs xs l
    comes (given {l} h) = let (o, oin, e) = Contains-map (renamed_lit f) xs l h in (o, start o oin, e, given oin)
    comes (unit {l} d din lin rest) =
        let (c, cin, ce) = Contains-map (renamed f) cs d din in
        let bound : IsBelow size c = All-contains (IsBelow size) cs c below cin in
        let has_l : List Literal → Type 0 = λ z. Contains z l in
        let (o, oin, oe) = Contains-map (renamed_lit f) c l (subst has_l (sym ce) lin) in (
          o,
          bound o oin,
          oe,
          unit c cin oin (λ n nin ne.
              let has_n : List Literal → Type 0 = λ z. Contains z (renamed_lit f n) in
              let there : Contains d (renamed_lit f n) = subst has_n ce (Contains-mapped (renamed_lit f) c n nin) in
              let (k, kb, ke, kp) = comes (rest (renamed_lit f n) there (λ q. ne (same_named n o (bound n nin) (bound o oin) (q ∙ sym oe)))) in
              let P : Literal → Type 0 = λ x. Propagates cs xs x in
              subst P (same_named k (negation n) kb (bound n nin) ke) kp),
        )

    conflicts_come : Conflicts (all_renamed f cs) (renamed f xs) → Conflicts cs xs
    conflicts_come (d, din, made) =
        let (c, cin, ce) = Contains-map (renamed f) cs d din in
        let bound : IsBelow size c = All-contains (IsBelow size) cs c below cin in (
          c,
          cin,
          λ n nin.
              let has_n : List Literal → Type 0 = λ z. Contains z (renamed_lit f n) in
              let there : Contains d (renamed_lit f n) = subst has_n ce (Contains-mapped (renamed_lit f) c n nin) in
              let (k, kb, ke, kp) = comes (made (renamed_lit f n) there) in
              let P : Literal → Type 0 = λ x. Propagates cs xs x in
              subst P (same_named k (negation n) kb (bound n nin) ke) kp,
        )

  rup_named : (cs : List (List Literal)) (line : List Literal) → All (IsBelow size) cs → IsBelow size line → HasRup cs line ↔ HasRup (all_renamed f cs) (renamed f line)
  rup_named cs line below start =
      let P : List Literal → Type 0 = λ x. Conflicts (all_renamed f cs) x in (
        (λ h. subst P (sym (denied_renamed f line)) (conflicts_renamed f cs (map negation line) h)),
        (λ h. conflicts_come cs (map negation line) below (negated_below size line start) (subst P (denied_renamed f line) h)),
      )

pub names_do_not_count : NamesDoNotCount
names_do_not_count f size cs line apart below start = rup_named f size apart cs line below start

front_renamed : (f : ℕ → ℕ) (cs lines : List (List Literal)) (at : ℕ) → all_renamed f (cs ++ take at lines) ≡ all_renamed f cs ++ take at (all_renamed f lines)
front_renamed f cs lines at =
    map-append (renamed f) cs (take at lines) ∙ ap (λ (x : List (List Literal)). all_renamed f cs ++ x) (sym (take-map (renamed f) at lines))

line_renamed : (f : ℕ → ℕ) (lines : List (List Literal)) (at : ℕ) → at < length lines → line_at (all_renamed f lines) at ≡ renamed f (line_at lines at)
line_renamed f lines at within = get_or-map (renamed f) lines at [] [] within

clauses_length : (f : ℕ → ℕ) (cs : List (List Literal)) → length (all_renamed f cs) ≡ length cs
clauses_length f cs = length-map cs (renamed f)

module _ (f : ℕ → ℕ) (size : ℕ) (apart : IsOneToOne f size) (cs lines : List (List Literal)) (below : All (IsBelow size) cs) (lines_below : All (IsBelow size) lines) where
  rup_there : (at : ℕ) → at < length lines → HasRup (cs ++ take at lines) (line_at lines at) ↔ HasRup (all_renamed f cs ++ take at (all_renamed f lines)) (line_at (all_renamed f lines) at)
  rup_there at within =
      let all : All (IsBelow size) (cs ++ take at lines) = All-append (IsBelow size) cs (take at lines) below (All-take (IsBelow size) at lines lines_below) in
      let here = rup_named f size apart (cs ++ take at lines) (line_at lines at) all (lines_below at [] within) in
      let P : List (List Literal) → Type 0 = λ x. HasRup (cs ++ take at lines) (line_at lines at) ↔ HasRup x (renamed f (line_at lines at)) in
      let Q : List Literal → Type 0 = λ x. HasRup (cs ++ take at lines) (line_at lines at) ↔ HasRup (all_renamed f cs ++ take at (all_renamed f lines)) x in
      subst Q (sym (line_renamed f lines at within)) (subst P (front_renamed f cs lines at) here)

  lawful_named : IsLawful cs lines → IsLawful (all_renamed f cs) (all_renamed f lines)
  lawful_named lawful at within =
      let inside : at < length lines = let n = clauses_length f lines in omega arith in
      (rup_there at inside).0 (lawful at inside)

lawful_front_named : (f : ℕ → ℕ) (size : ℕ) → IsOneToOne f size → (cs lines : List (List Literal)) (at : ℕ) → All (IsBelow size) cs → All (IsBelow size) lines → IsLawful cs (take at lines) → IsLawful (all_renamed f cs) (take at (all_renamed f lines))
lawful_front_named f size apart cs lines at below lines_below lawful =
    let P : List (List Literal) → Type 0 = λ x. IsLawful (all_renamed f cs) x in
    subst P (sym (take-map (renamed f) at lines)) (lawful_named f size apart cs (take at lines) below (All-take (IsBelow size) at lines lines_below) lawful)

first_unlawful_named : (f : ℕ → ℕ) (size : ℕ) → IsOneToOne f size → (cs lines : List (List Literal)) (at : ℕ) → All (IsBelow size) cs → All (IsBelow size) lines → IsFirstUnlawful cs lines at → IsFirstUnlawful (all_renamed f cs) (all_renamed f lines) at
first_unlawful_named f size apart cs lines at below lines_below (within, lawful, bad) = (
  (let n = clauses_length f lines in omega arith),
  lawful_front_named f size apart cs lines at below lines_below lawful,
  λ h. bad ((rup_there f size apart cs lines below lines_below at within).1 h),
)

module _ (f : ℕ → ℕ) (size : ℕ) (apart : IsOneToOne f size) (cs : List (List Literal)) (below : All (IsBelow size) cs) where
  number_named : (n : ℕ) → IsNumber cs n → IsNumber (all_renamed f cs) n
  number_named n (low, high) = (low, (let k = clauses_length f cs in omega arith))

  clause_named : (n : ℕ) → IsNumber cs n → numbered (all_renamed f cs) n ≡ renamed f (numbered cs n)
  clause_named n (low, high) = get_or-map (renamed f) ([] ∷ cs) n [] [] (omega arith)

  clause_below : (n : ℕ) → IsNumber cs n → IsBelow size (numbered cs n)
  clause_below zero (low, high) = absurd (omega arith)
  clause_below (suc n) (low, high) = below n [] (omega arith)

  falsified_named : (trail c : List Literal) → IsFalsified trail c → IsFalsified (renamed f trail) (renamed f c)
  falsified_named trail c h m min =
      let (n, nin, e) = Contains-map (renamed_lit f) c m min in
      let P : Literal → Type 0 = λ x. Contains (renamed f trail) (negation x) in
      subst P e (Contains-mapped (renamed_lit f) trail (negation n) (h n nin))

  unit_named : (trail c : List Literal) (u : Literal) → IsBelow size trail → IsBelow size c → IsUnit trail c u → IsUnit (renamed f trail) (renamed f c) (renamed_lit f u)
  unit_named trail c u start bound (uin, is_open, others) = (
    Contains-mapped (renamed_lit f) c u uin,
    (
      (λ h. is_open.0 (named_among f size apart trail u start (bound u uin) h)),
      (λ h. is_open.1 (named_among f size apart trail (negation u) start (bound u uin) h)),
    ),
    λ m min ne.
        let to : Literal → Literal = renamed_lit f in
        let (n, nin, e) = Contains-map (renamed_lit f) c m min in
        let P : Literal → Type 0 = λ x. Contains (renamed f trail) (negation x) in
        subst P e (Contains-mapped (renamed_lit f) trail (negation n) (others n nin (λ q. ne (sym e ∙ ap to q)))),
  )

  pushed_below : (trail c : List Literal) (u : Literal) → IsBelow size trail → IsBelow size c → Contains c u → IsBelow size (trail ++ u ∷ [])
  pushed_below trail c u start bound uin l h =
      let P : Literal → Type 0 = λ x. x.var < size in
      elim (Contains-push_cases trail u l h) [ inl q ↦ start l q | inr q ↦ subst P q (bound u uin) ]

  refutes_named : {trail : List Literal} {uses : List ℕ} → IsBelow size trail → Refutes cs trail uses → Refutes (all_renamed f cs) (renamed f trail) uses
  refutes_named start (final {trail} {number} is_number falsified) =
      let P : List Literal → Type 0 = λ c. IsFalsified (renamed f trail) c in
      final (number_named number is_number) (subst P (sym (clause_named number is_number)) (falsified_named trail (numbered cs number) falsified))
  refutes_named start (then {trail} {number} {rest} u is_number forced more) =
      let P : List Literal → Type 0 = λ c. IsUnit (renamed f trail) c (renamed_lit f u) in
      let Q : List Literal → Type 0 = λ t. Refutes (all_renamed f cs) t rest in
      let bound : IsBelow size (numbered cs number) = clause_below number is_number in
      then (renamed_lit f u) (number_named number is_number)
      (subst P (sym (clause_named number is_number)) (unit_named trail (numbered cs number) u start bound forced))
      (subst Q (map_push (renamed_lit f) trail u) (refutes_named (pushed_below trail (numbered cs number) u start bound forced.0) more))

  right_named : (line : List Literal) (uses : List ℕ) → IsBelow size line → IsRight cs line uses → IsRight (all_renamed f cs) (renamed f line) uses
  right_named line uses start right =
      let P : List Literal → Type 0 = λ t. Refutes (all_renamed f cs) t uses in
      subst P (sym (denied_renamed f line)) (refutes_named (negated_below size line start) right)

are_right_named : (f : ℕ → ℕ) (size : ℕ) → IsOneToOne f size → (cs lines : List (List Literal)) (uses : List (List ℕ)) → All (IsBelow size) cs → All (IsBelow size) lines → AreRight cs lines uses → AreRight (all_renamed f cs) (all_renamed f lines) uses
are_right_named f size apart cs lines uses below lines_below right at within =
    let inside : at < length lines = let n = clauses_length f lines in omega arith in
    let all : All (IsBelow size) (cs ++ take at lines) = All-append (IsBelow size) cs (take at lines) below (All-take (IsBelow size) at lines lines_below) in
    let here = right_named f size apart (cs ++ take at lines) all (line_at lines at) (uses_at uses at) (lines_below at [] inside) (right at inside) in
    let P : List (List Literal) → Type 0 = λ x. IsRight x (renamed f (line_at lines at)) (uses_at uses at) in
    let Q : List Literal → Type 0 = λ x. IsRight (all_renamed f cs ++ take at (all_renamed f lines)) x (uses_at uses at) in
    subst Q (sym (line_renamed f lines at inside)) (subst P (front_renamed f cs lines at) here)

-- what is found of the few, holds of the clauses and lines that they stand for
module _ (cs lines : List (List Literal)) (size : ℕ) (few few_lines : List (List Literal)) (stand : StandFor cs lines size few few_lines) where
  stands : (P : List (List Literal) → List (List Literal) → Type 0) → P (all_renamed stand.names few) (all_renamed stand.names few_lines) → P cs lines
  stands P h =
      let in_lines : List (List Literal) → Type 0 = λ x. P (all_renamed stand.names few) x in
      let in_clauses : List (List Literal) → Type 0 = λ x. P x lines in
      subst in_clauses (sym stand.same) (subst in_lines (sym stand.same_lines) h)

  pub lawful_stands : IsLawful few few_lines → IsLawful cs lines
  lawful_stands h = stands (λ x y. IsLawful x y) (lawful_named stand.names size stand.apart few few_lines stand.below stand.lines_below h)

  pub first_unlawful_stands : (at : ℕ) → IsFirstUnlawful few few_lines at → IsFirstUnlawful cs lines at
  first_unlawful_stands at h = stands (λ x y. IsFirstUnlawful x y at) (first_unlawful_named stand.names size stand.apart few few_lines at stand.below stand.lines_below h)

  pub right_stands : (uses : List (List ℕ)) → AreRight few few_lines uses → AreRight cs lines uses
  right_stands uses h = stands (λ x y. AreRight x y uses) (are_right_named stand.names size stand.apart few few_lines uses stand.below stand.lines_below h)

  pub lines_length : length few_lines ≡ length lines
  lines_length = let P : List (List Literal) → ℕ = λ x. length x in sym (ap P stand.same_lines ∙ clauses_length stand.names few_lines)
