-- What follows from the decisions of a search.
use Rattle.std.proofs.Common.{true, ◌≡◌, ◌≢◌, ℕ, zero, suc, ◌+◌, ◌-◌, ◌<◌, ◌≤◌, List, [], ◌∷◌, ◌++◌, length, take, get_or, map, arith, inl, inr, sym, subst, ap, ◌∙◌, length-take}
use Rattle.std.specs.List.{AllPairs, Contains}
use Rattle.std.proofs.lemmas.Bool.{cases_lt}
use Rattle.std.proofs.lemmas.List.{length-take-le, get_or-take, get_or_default, map-append}
use Rattle.std.proofs.lemmas.List.Elements.{Contains-append_left, Contains-append_right}
use Rattle.ax_proof.specs.Literal.{Literal, negation}
use Rattle.ax_proof.specs.Clause.{IsClause, Clashes, SameLiterals}
use Rattle.ax_proof.specs.Propagation.{Propagates, given, unit, Conflicts, HasRup}
use Rattle.ax_proof.specs.Trail.{IsConsistent, IsFalsified, IsSettled}
use Rattle.ax_proof.specs.Uses.{numbered}
use Rattle.ax_proof.proofs.Lists.{Contains-here, Contains-there, Contains-cons_cases, Contains-none, Contains-take, Contains-map, Contains-mapped, took}
use Rattle.ax_proof.proofs.Literals.{negation_twice}
use Rattle.ax_proof.proofs.Runs.{numbered_stands}
use Rattle.ax_watch.specs.Watch.{AreReasons}
use Rattle.ax_sat.specs.Answer.{units}
use Rattle.ax_sat.specs.Analysis.{Explains}
use Rattle.ax_sat.specs.Levels.{Stands, Asks, IsDenied, denials}

-- the whole trail follows where the decisions do
module _ (cs ds : List (List Literal)) (trail : List Literal) (reasons starts : List ℕ) (s : Stands cs trail reasons starts) (reasoned : AreReasons cs trail reasons) (more : (c : List Literal) → Contains cs c → Contains ds c) (xs : List Literal) (decided : (i : ℕ) (d : Literal) → i < length starts → Propagates ds xs (get_or trail (get_or starts i 0) d)) where
  follows_below : (n at : ℕ) → at < n → at < length trail → (d : Literal) → Propagates ds xs (get_or trail at d)
  follows_below zero at h lt d = absurd (omega arith)
  follows_below (suc n) at h lt d =
      elim (cases_lt at n) [
        | inl less ↦ follows_below n at less lt d
        | inr last ↦ elim (reasoned at d lt) [
          | inl z ↦
              let (i, ih, e) = s.decided at lt z in
              let P : ℕ → Type 0 = λ k. Propagates ds xs (get_or trail k d) in
              subst P (get_or_default starts i 0 at ih ∙ e) (decided i d ih)
          | inr f ↦
              let u = f.1 in
              unit (numbered cs (get_or reasons at 0)) (more _ (numbered_stands cs (get_or reasons at 0) f.0)) u.0
              (λ m min ne.
              let (j, jlt, e) = u.2 m min ne in
              let k = length-take at trail in
              let early : j < at = omega arith in
              let P : Literal → Type 0 = λ z. Propagates ds xs z in
              subst P (sym (get_or-take at trail j (negation m) early) ∙ e) (follows_below n j (omega arith) (omega arith) (negation m)))
        ]
      ]

  pub follows : (l : Literal) → Contains trail l → Propagates ds xs l
  follows l (k, lt, e) = let P : Literal → Type 0 = λ z. Propagates ds xs z in subst P e (follows_below (k + 1) k (omega arith) lt l)

  pub follows_false : (c : List Literal) → Contains cs c → IsFalsified trail c → Conflicts ds xs
  follows_false c cin made = (c, more c cin, λ m min. follows (negation m) (made m min))

abbrev denial_at : List Literal → ℕ → Literal
denial_at trail x = negation (get_or trail x (record { var = 0; positive = true }))

module _ (cs : List (List Literal)) (trail : List Literal) (reasons starts : List ℕ) (s : Stands cs trail reasons starts) where
  -- a denial's literal stands on the trail
  denial_stands : (m : Literal) → Contains (denials trail starts) m → (x i : ℕ) × (i < length starts) × (get_or starts i 0 ≡ x) × (get_or trail x (negation m) ≡ negation m) × (x < length trail)
  denial_stands m h =
      let (x, xin, e) = Contains-map (denial_at trail) starts m h in
      let (i, lt, f) = xin in
      let g : get_or starts i 0 ≡ x = get_or_default starts i 0 x lt ∙ f in
      let w = s.within i lt in
      let within : x < length trail = omega arith in
      let t : Literal = get_or trail x (record { var = 0; positive = true }) in
      let same : t ≡ negation m = sym (negation_twice t) ∙ ap negation e in
      (x, i, lt, g, get_or_default trail x (negation m) (record { var = 0; positive = true }) within ∙ same, within)

  pub denial_true : (m : Literal) → Contains (denials trail starts) m → Contains trail (negation m)
  denial_true m h = let (x, i, lt, g, e, within) = denial_stands m h in (x, within, e)

  pub denials_apart : IsConsistent trail → Clashes (denials trail starts) → ⊥
  denials_apart ok (m, a, b) = ok (negation m) (denial_true m a) (denial_true (negation m) b)

-- the line of all denials explains what is false
module _ (cs : List (List Literal)) (trail : List Literal) (reasons starts : List ℕ) (line : List Literal) (s : Stands cs trail reasons starts) (reasoned : AreReasons cs trail reasons) (ok : IsConsistent trail) (once : AllPairs (λ (a b : Literal). a.var ≢ b.var) trail) (some : 0 < length starts) (same : SameLiterals (denials trail starts) line) (rising : IsClause line) where
  abbrev last : ℕ
  last = get_or starts (length starts - 1) 0

  last_in : Contains starts last
  last_in = ((length starts - 1), (omega arith), get_or_default starts (length starts - 1) last 0 (omega arith))

  abbrev last_true : Literal
  last_true = get_or trail last (record { var = 0; positive = true })

  given_here : (i : ℕ) (d : Literal) → i < length starts → Propagates cs (map negation line) (get_or trail (get_or starts i 0) d)
  given_here i d lt =
      let x = get_or starts i 0 in
      let w = s.within i lt in
      let t : Literal = get_or trail x (record { var = 0; positive = true }) in
      let there : Contains starts x = (i, lt, get_or_default starts i x 0 lt) in
      let in_line : Contains line (negation t) = (same (negation t)).0 (Contains-mapped (denial_at trail) starts x there) in
      let P : Literal → Type 0 = λ z. Propagates cs (map negation line) z in
      subst P (negation_twice t ∙ get_or_default trail x (record { var = 0; positive = true }) d w) (given (Contains-mapped negation line (negation t) in_line))

  abbrev others : List Literal
  others = denials trail (take (length starts - 1) starts)

  split : (l : Literal) → (Contains line l → Contains (negation last_true ∷ others) l) × (Contains (negation last_true ∷ others) l → Contains line l)
  split l = (
    (λ h.
        let (x, xin, e) = Contains-map (denial_at trail) starts l ((same l).1 h) in
        let (i, lt, f) = xin in
        elim (cases_lt i (length starts - 1)) [
          | inl less ↦
              let k = length-take (length starts - 1) starts in
              let there : Contains (take (length starts - 1) starts) x = (i, (omega arith), get_or-take (length starts - 1) starts i x less ∙ f) in
              let P : Literal → Type 0 = λ z. Contains others z in
              Contains-there (negation last_true) others l (subst P e (Contains-mapped (denial_at trail) (take (length starts - 1) starts) x there))
          | inr more ↦
              let i_is : i ≡ (length starts - 1) = omega arith in
              let P : ℕ → Type 0 = λ z. get_or starts z 0 ≡ x in
              let x_is : last ≡ x = subst P i_is (get_or_default starts i 0 x lt ∙ f) in
              let Q : Literal → Type 0 = λ z. Contains (negation last_true ∷ others) z in
              subst Q (ap (denial_at trail) x_is ∙ e) (Contains-here (negation last_true) others)
        ]),
    (λ h. elim (Contains-cons_cases (negation last_true) others l h) [
      | inl q ↦ let P : Literal → Type 0 = λ z. Contains line z in subst P (sym q) ((same (negation last_true)).0 (Contains-mapped (denial_at trail) starts last last_in))
      | inr q ↦
          let (x, xin, e) = Contains-map (denial_at trail) (take (length starts - 1) starts) l q in
          let P : Literal → Type 0 = λ z. Contains line z in
          subst P e ((same (denial_at trail x)).0 (Contains-mapped (denial_at trail) starts x (Contains-take starts (length starts - 1) x xin)))
    ]),
  )

  last_within : last < length trail
  last_within = s.within (length starts - 1) (omega arith)

  earlier : (m : Literal) → Contains others m → Contains (take last trail) (negation m)
  earlier m h =
      let (x, xin, e) = Contains-map (denial_at trail) (take (length starts - 1) starts) m h in
      let (i, lt, f) = xin in
      let k = length-take (length starts - 1) starts in
      let less : i < (length starts - 1) = omega arith in
      let r : get_or starts i 0 < last = s.rising i (length starts - 1) less (omega arith) in
      let g : get_or starts i 0 ≡ x = get_or_default starts i 0 x (omega arith) ∙ (sym (get_or-take (length starts - 1) starts i x less) ∙ f) in
      let w = last_within in
      let t : Literal = get_or trail x (record { var = 0; positive = true }) in
      let same_lit : t ≡ negation m = sym (negation_twice t) ∙ ap negation e in
      let long : length (take last trail) ≡ last = length-take-le last trail (omega arith) in
      (x, (omega arith), get_or-take last trail x (negation m) (omega arith) ∙ (get_or_default trail x (negation m) (record { var = 0; positive = true }) (omega arith) ∙ same_lit))

  last_stands : Contains trail last_true
  last_stands = (last, last_within, get_or_default trail last last_true (record { var = 0; positive = true }) last_within)

  not_before : Contains (take last trail) last_true → ⊥
  not_before (j, lt, e) =
      let w = last_within in
      let long : length (take last trail) ≡ last = length-take-le last trail (omega arith) in
      let less : j < last = omega arith in
      let v : Literal → ℕ = λ z. z.var in
      let f : get_or trail j last_true ≡ last_true = sym (get_or-take last trail j last_true less) ∙ e in
      let g : get_or trail last last_true ≡ last_true = get_or_default trail last last_true (record { var = 0; positive = true }) last_within in
      once j last last_true less last_within (ap v (f ∙ sym g))

  pub denials_explain : (c : List Literal) → Contains cs c → IsFalsified trail c → Explains cs trail (get_or starts (length starts - 1) 0) line
  denials_explain c cin false_clause = record {
    lawful = follows_false cs cs trail reasons starts s reasoned (λ d h. h) (map negation line) given_here c cin false_clause;
    first = negation last_true;
    others = others;
    same = split;
    before = earlier;
    opened = (
      (λ h. ok last_true last_stands (Contains-take trail last (negation last_true) h)),
      (λ h. let P : Literal → Type 0 = λ z. Contains (take last trail) z in not_before (subst P (negation_twice last_true) h)),
    );
    denied = λ m h. denial_true cs trail reasons starts s m ((same m).1 h);
    rising = rising;
  }

-- a line is settled before each decision up to a place whose literal it denies
module _ (cs : List (List Literal)) (trail line : List Literal) (start place front : ℕ) (x : Explains cs trail start line) (ok : IsConsistent trail) (once : AllPairs (λ (a b : Literal). a.var ≢ b.var) trail) (denied : IsDenied trail line start place) (early : front ≤ place) where
  abbrev of_place : Literal
  of_place = get_or trail place (record { var = 0; positive = true })

  same_here : (d : Literal) → get_or trail place d ≡ of_place
  same_here d = get_or_default trail place d (record { var = 0; positive = true }) denied.1

  in_front : (l : Literal) → Contains (take front trail) l → (j : ℕ) × (j < front) × (j < length trail) × (get_or trail j l ≡ l)
  in_front l (j, lt, e) =
      let n = length-take front trail in
      let less : j < front = omega arith in
      (j, less, (omega arith), sym (get_or-take front trail j l less) ∙ e)

  in_start : (l : Literal) → Contains (take front trail) l → Contains (take start trail) l
  in_start l h =
      let (j, less, within, e) = in_front l h in
      let n = length-take start trail in
      let s = denied.0 in
      (j, (omega arith), get_or-take start trail j l (omega arith) ∙ e)

  place_in_start : Contains (take start trail) of_place
  place_in_start =
      let n = length-take start trail in
      let s = denied.0 in
      let w = denied.1 in
      (place, (omega arith), get_or-take start trail place of_place s ∙ same_here of_place)

  place_true : Contains trail of_place
  place_true = (place, denied.1, same_here of_place)

  apart : x.first ≢ negation of_place
  apart e = let P : Literal → Type 0 = λ z. Contains (take start trail) z in x.opened.1 (subst P (sym (ap negation e ∙ negation_twice of_place)) place_in_start)

  not_in_front : Contains (take front trail) of_place → ⊥
  not_in_front h =
      let (j, less, within, e) = in_front of_place h in
      let v : Literal → ℕ = λ z. z.var in
      once j place of_place (omega arith) denied.1 (ap v (e ∙ sym (same_here of_place)))

  pub line_settled : IsSettled (take front trail) line
  line_settled = inr (
    x.first,
    negation of_place,
    apart,
    (x.same x.first).1 (Contains-here x.first x.others),
    denied.2 (record { var = 0; positive = true }),
    ((λ h. x.opened.0 (in_start x.first h)), (λ h. x.opened.1 (in_start (negation x.first) h))),
    (
      (λ h. ok of_place place_true (Contains-take trail front (negation of_place) h)),
      (λ h. let P : Literal → Type 0 = λ z. Contains (take front trail) z in not_in_front (subst P (negation_twice of_place) h)),
    ),
  )

-- where all decisions are assumptions, the trail follows from the assumptions' unit clauses
module _ (cs : List (List Literal)) (assumed trail : List Literal) (reasons starts : List ℕ) (roots asked : ℕ) (s : Stands cs trail reasons starts) (reasoned : AreReasons cs trail reasons) (a : Asks assumed trail starts roots asked) (all : length starts ≤ roots) where
  abbrev one : Literal → List Literal
  one l = l ∷ []

  assumed_follows : (i : ℕ) (d : Literal) → i < length starts → Propagates (cs ++ units assumed) [] (get_or trail (get_or starts i 0) d)
  assumed_follows i d lt =
      let l : Literal = get_or trail (get_or starts i 0) d in
      let there : Contains assumed l = a.assumptions i d (omega arith) in
      unit (one l) (Contains-append_right cs (units assumed) (one l) (Contains-mapped one assumed l there)) (Contains-here l [])
      (λ k kin ne. elim (Contains-cons_cases l [] k kin) [ inl q ↦ absurd (ne q) | inr q ↦ absurd (Contains-none k q) ])

  pub root_false : (c : List Literal) → Contains cs c → IsFalsified trail c → HasRup (cs ++ units assumed) []
  root_false c cin made = follows_false cs (cs ++ units assumed) trail reasons starts s reasoned (λ d h. Contains-append_left cs (units assumed) d h) [] assumed_follows c cin made

  pub root_denied : (lit : Literal) → Contains assumed lit → Contains trail (negation lit) → HasRup (cs ++ units assumed) []
  root_denied lit there false_there = (
    one lit,
    Contains-append_right cs (units assumed) (one lit) (Contains-mapped one assumed lit there),
    λ m min. elim (Contains-cons_cases lit [] m min) [
      | inl q ↦
          let P : Literal → Type 0 = λ z. Propagates (cs ++ units assumed) [] (negation z) in
          subst P (sym q) (follows cs (cs ++ units assumed) trail reasons starts s reasoned (λ d h. Contains-append_left cs (units assumed) d h) [] assumed_follows (negation lit) false_there)
      | inr q ↦ absurd (Contains-none m q)
    ],
  )

-- where an assumption is not true, all decisions are assumptions
pub all_asked : (assumed trail : List Literal) (starts : List ℕ) (roots asked : ℕ) (lit : Literal) → Asks assumed trail starts roots asked → Contains assumed lit → (Contains trail lit → ⊥) → length starts ≤ roots
all_asked assumed trail starts roots asked lit a here not_true =
    elim (cases_lt roots (length starts)) [
      | inl less ↦ absurd (not_true (Contains-take trail (get_or starts roots 0) lit (a.later roots (omega arith) less lit here)))
      | inr q ↦ q
    ]

pub denials_push : (trail : List Literal) (starts : List ℕ) (i x : ℕ) (t : Literal) → i < length starts → x ≡ get_or starts i x → x < length trail → t ≡ get_or trail x t → denials trail (take (i + 1) starts) ≡ denials trail (take i starts) ++ negation t ∷ []
denials_push trail starts i x t lt here within t_is =
    let e : take (i + 1) starts ≡ take i starts ++ x ∷ [] = took starts i x lt here in
    let f : List ℕ → List Literal = λ z. denials trail z in
    let same : get_or trail x (record { var = 0; positive = true }) ≡ t = get_or_default trail x (record { var = 0; positive = true }) t within ∙ sym t_is in
    ap f e ∙ (map-append (denial_at trail) (take i starts) (x ∷ []) ∙ ap (λ (z : Literal). denials trail (take i starts) ++ negation z ∷ []) same)
