-- Lines that a search learns.
use Rattle.std.proofs.Common.{◌≡◌, ℕ, ◌+◌, ◌<◌, ◌≤◌, List, [], ◌∷◌, ◌++◌, length, get_or, map, take, arith, inl, inr, sym, subst, ap, ◌∙◌}
use Rattle.std.specs.List.{All, Contains}
use Rattle.std.proofs.lemmas.List.{take_all}
use Rattle.std.proofs.lemmas.List.Elements.{All-append, All-map, All-weaker, All-contains, All-contains_itself, All-more, Contains-append_left, Contains-append_right, Contains-push, Contains-push_cases}
use Rattle.ax_proof.specs.Literal.{Literal, negation, IsOver}
use Rattle.ax_proof.specs.Clause.{SameLiterals, Clashes, IsClause}
use Rattle.ax_proof.specs.Propagation.{Propagates, given, unit, Conflicts, HasRup}
use Rattle.ax_proof.specs.Lines.{IsNew}
use Rattle.ax_proof.specs.Trail.{TrailState, IsOpen, IsConsistent, IsSettled}
use Rattle.ax_proof.specs.Runs.{GoesOn}
use Rattle.ax_proof.proofs.Lists.{Contains-here, Contains-there, Contains-cons_cases, Contains-none, Contains-map, Contains-mapped}
use Rattle.ax_proof.proofs.Literals.{negation_twice, negation_other}
use Rattle.ax_proof.proofs.Propagations.{propagates_along, conflicts_along, propagated_stands, settled_no_conflict}
use Rattle.ax_proof.proofs.Runs.{begins_contains, goes_on_propagates}
use Rattle.ax_sat.specs.Answer.{units}
use Rattle.ax_sat.specs.Search.{Extends, Descends, IsLesson}

-- A learnt line is new where a complete trail has the negations of all its literals but one, and that one is open.
pub new_line : (cs : List (List Literal)) (trail line others : List Literal) (l : Literal) → IsConsistent trail → All (IsSettled trail) cs → SameLiterals line (l ∷ others) → ((m : Literal) → Contains others m → Contains trail (negation m)) → IsOpen trail l → IsNew cs line
new_line cs trail line others l ok settled same denied is_free =
    let start : (x : Literal) → Contains (map negation others) x → Contains trail x = λ x h.
    let (m, min, e) = Contains-map negation others x h in
    let P : Literal → Type 0 = λ z. Contains trail z in
    subst P e (denied m min)
    in (
      l,
      others,
      same,
      (λ h. is_free.1 (denied l h)),
      (λ h. settled_no_conflict cs (map negation others) trail ok settled start h),
      (λ h. is_free.0 (propagated_stands cs (map negation others) trail ok settled start h)),
    )

pub extends_of : (cs : List (List Literal)) (old new : TrailState) → GoesOn cs old new → Extends cs old.lits new.lits
extends_of cs old new goes = record { kept = begins_contains old.lits new.lits goes.lits; forced = goes_on_propagates cs old new goes }

-- the assumptions' units are settled where the assumptions stand
pub units_settled : (cs : List (List Literal)) (assumed trail : List Literal) → ((l : Literal) → Contains assumed l → Contains trail l) → All (IsSettled trail) cs → All (IsSettled trail) (cs ++ units assumed)
units_settled cs assumed trail h settled =
    let one : Literal → List Literal = λ l. l ∷ [] in
    All-append (IsSettled trail) cs (units assumed) settled
    (All-map (IsSettled trail) one assumed
    (All-weaker (Contains assumed) (λ l. IsSettled trail (one l)) (λ l q. inl (l, Contains-here l [], h l q)) assumed (All-contains_itself assumed)))

-- what is forced without the units by what was denied, is forced by the units
pub forced_by_units : (cs : List (List Literal)) (assumed denied : List Literal) → ((m : Literal) → Contains denied m → Contains assumed (negation m)) → {l : Literal} → Propagates cs (map negation denied) l → Propagates (cs ++ units assumed) [] l
forced_by_units cs assumed denied from =
    let one : Literal → List Literal = λ l. l ∷ [] in
    propagates_along cs (cs ++ units assumed) (map negation denied) [] (λ c q. Contains-append_left cs (units assumed) c q)
    (λ m h. let (z, zin, e) = Contains-map negation denied m h in
    let P : Literal → Type 0 = λ x. Contains assumed x in
    let there : Contains assumed m = subst P e (from z zin) in
    unit (one m) (Contains-append_right cs (units assumed) (one m) (Contains-mapped one assumed m there)) (Contains-here m [])
    (λ k kin ne. elim (Contains-cons_cases m [] k kin) [ inl q ↦ absurd (ne q) | inr q ↦ absurd (Contains-none k q) ]))

-- an assumption is false: refuted
pub assumption_false : (cs : List (List Literal)) (all assumed trail denied : List Literal) (lit : Literal) → Descends cs assumed trail denied → ((m : Literal) → Contains denied m → Contains all (negation m)) → Contains all lit → Contains trail (negation lit) → HasRup (cs ++ units all) []
assumption_false cs all assumed trail denied lit d from there false_there =
    let one : Literal → List Literal = λ l. l ∷ [] in (
      one lit,
      Contains-append_right cs (units all) (one lit) (Contains-mapped one all lit there),
      λ m min. elim (Contains-cons_cases lit [] m min) [
        | inl q ↦ let P : Literal → Type 0 = λ x. Propagates (cs ++ units all) [] (negation x) in subst P (sym q) (forced_by_units cs all denied from (d.forced (negation lit) false_there))
        | inr q ↦ absurd (Contains-none m q)
      ],
    )

-- a clause is false after the assumptions: refuted
pub assumed_conflict : (cs : List (List Literal)) (all trail denied : List Literal) → ((m : Literal) → Contains denied m → Contains all (negation m)) → ((l : Literal) → Contains trail l → Propagates cs (map negation denied) l) → Conflicts cs trail → HasRup (cs ++ units all) []
assumed_conflict cs all trail denied from forced (c, cin, made) = (
  c,
  Contains-append_left cs (units all) c cin,
  λ m min. forced_by_units cs all denied from (propagates_along cs cs trail (map negation denied) (λ x r. r) forced (made m min)),
)

pub from_push : (all denied : List Literal) (lit : Literal) → ((m : Literal) → Contains denied m → Contains all (negation m)) → Contains all lit → (m : Literal) → Contains (denied ++ negation lit ∷ []) m → Contains all (negation m)
from_push all denied lit from there m h =
    elim (Contains-push_cases denied (negation lit) m h) [
      | inl q ↦ from m q
      | inr q ↦ let P : Literal → Type 0 = λ x. Contains all (negation x) in
          let Q : Literal → Type 0 = λ x. Contains all x in
          subst P q (subst Q (sym (negation_twice lit)) there)
    ]

-- a complete trail with the assumptions refutes nothing
pub root_open : (cs : List (List Literal)) (assumed trail : List Literal) → IsConsistent trail → All (IsSettled trail) cs → ((l : Literal) → Contains assumed l → Contains trail l) → HasRup (cs ++ units assumed) [] → ⊥
root_open cs assumed trail ok settled stand h =
    settled_no_conflict (cs ++ units assumed) [] trail ok (units_settled cs assumed trail stand settled) (λ l q. absurd (Contains-none l q)) h

module _ (cs : List (List Literal)) (assumed trail denied line : List Literal) (lit : Literal) (d : Descends cs assumed trail denied) (ok : IsConsistent trail) (is_free : IsOpen trail lit) where
  -- a literal that is true after the decision is forced by what is denied
  pub forced_after : (l : Literal) → Contains (trail ++ lit ∷ []) l → Propagates cs (map negation (denied ++ negation lit ∷ [])) l
  forced_after l h =
      let P : Literal → Type 0 = λ x. Propagates cs (map negation (denied ++ negation lit ∷ [])) x in
      elim (Contains-push_cases trail lit l h) [
        | inl q ↦ propagates_along cs cs (map negation denied) (map negation (denied ++ negation lit ∷ [])) (λ c r. r)
            (λ m min. let (z, zin, e) = Contains-map negation denied m min in
            subst P e (given (Contains-mapped negation (denied ++ negation lit ∷ []) z (Contains-append_left denied (negation lit ∷ []) z zin))))
            (d.forced l q)
        | inr q ↦ subst P (negation_twice lit ∙ q) (given (Contains-mapped negation (denied ++ negation lit ∷ []) (negation lit) (Contains-push denied (negation lit))))
      ]

  pub descends_conflict : Conflicts cs (trail ++ lit ∷ []) → SameLiterals (denied ++ negation lit ∷ []) line → HasRup cs line
  descends_conflict (c, cin, made) same = (
    c,
    cin,
    λ m min.
        propagates_along cs cs (trail ++ lit ∷ []) (map negation line) (λ x r. r)
        (λ l lin. propagates_along cs cs (map negation (denied ++ negation lit ∷ [])) (map negation line) (λ x r. r)
        (λ k kin. let (z, zin, e) = Contains-map negation (denied ++ negation lit ∷ []) k kin in
        let P : Literal → Type 0 = λ x. Propagates cs (map negation line) x in
        subst P e (given (Contains-mapped negation line z ((same z).0 zin))))
        (forced_after l lin))
        (made m min),
  )

  pub descends_new : SameLiterals (denied ++ negation lit ∷ []) line → IsNew (cs ++ units assumed) line
  descends_new same =
      let P : Literal → Type 0 = λ x. Contains (negation lit ∷ denied) x in
      let Q : Literal → Type 0 = λ x. Contains (denied ++ negation lit ∷ []) x in
      let R : Literal → Type 0 = λ x. Contains trail x → ⊥ in
      new_line (cs ++ units assumed) trail line denied (negation lit) ok (units_settled cs assumed trail d.assumptions d.settled)
      (λ l. (
        λ h. elim (Contains-push_cases denied (negation lit) l ((same l).1 h)) [
          | inl q ↦ Contains-there (negation lit) denied l q
          | inr q ↦ subst P q (Contains-here (negation lit) denied)
        ],
        λ h. elim (Contains-cons_cases (negation lit) denied l h) [
          | inl q ↦ (same l).0 (subst Q (sym q) (Contains-push denied (negation lit)))
          | inr q ↦ (same l).0 (Contains-append_left denied (negation lit ∷ []) l q)
        ],
      ))
      d.denials
      (is_free.1, subst R (sym (negation_twice lit)) is_free.0)

  pub descends_next : (new : List Literal) → Extends cs (trail ++ lit ∷ []) new → All (IsSettled new) cs → Descends cs assumed new (denied ++ negation lit ∷ [])
  descends_next new e settled = record {
    settled = settled;
    assumptions = λ l h. e.kept l (Contains-append_left trail (lit ∷ []) l (d.assumptions l h));
    denials = λ m h.
        let P : Literal → Type 0 = λ x. Contains new (negation x) in
        let Q : Literal → Type 0 = λ x. Contains new x in
        elim (Contains-push_cases denied (negation lit) m h) [
          | inl q ↦ e.kept (negation m) (Contains-append_left trail (lit ∷ []) (negation m) (d.denials m q))
          | inr q ↦ subst P q (subst Q (sym (negation_twice lit)) (e.kept lit (Contains-push trail lit)))
        ];
    forced = λ l h. propagates_along cs cs (trail ++ lit ∷ []) (map negation (denied ++ negation lit ∷ [])) (λ c r. r) forced_after (e.forced l h);
  }

  denied_free : (m : Literal) → Contains (denied ++ negation lit ∷ []) m → Contains (denied ++ negation lit ∷ []) (negation m) → ⊥
  denied_free m h n =
      elim (Contains-push_cases denied (negation lit) m h) [
        | inl q ↦ elim (Contains-push_cases denied (negation lit) (negation m) n) [
          | inl r ↦ ok (negation m) (d.denials m q) (d.denials (negation m) r)
          | inr r ↦
              let e : lit ≡ m = sym (negation_twice lit) ∙ ap negation r ∙ negation_twice m in
              let P : Literal → Type 0 = λ x. Contains trail (negation x) in
              is_free.1 (subst P (sym e) (d.denials m q))
        ]
        | inr q ↦ elim (Contains-push_cases denied (negation lit) (negation m) n) [
          | inl r ↦
              let P : Literal → Type 0 = λ x. Contains trail (negation (negation x)) in
              let there : Contains trail (negation (negation (negation lit))) = subst P (sym q) (d.denials (negation m) r) in
              let Q : Literal → Type 0 = λ x. Contains trail x in
              is_free.1 (subst Q (ap negation (negation_twice lit)) there)
          | inr r ↦ negation_other m (sym q ∙ r)
        ]
      ]

  pub no_clash : Clashes (denied ++ negation lit ∷ []) → ⊥
  no_clash (m, a, b) = denied_free m a b

  pub learnt_over : (vars : ℕ) → IsOver vars denied → 1 ≤ lit.var → lit.var ≤ vars → SameLiterals (denied ++ negation lit ∷ []) line → IsOver vars line
  learnt_over vars over low high same l lin =
      let f : Literal → ℕ = λ x. x.var in
      elim (Contains-push_cases denied (negation lit) l ((same l).1 lin)) [
        | inl q ↦ over l q
        | inr q ↦ let e : lit.var ≡ l.var = ap f q in (omega arith, omega arith)
      ]

  -- the line of what was denied
  pub descends_lesson : (vars : ℕ) → IsOver vars denied → 1 ≤ lit.var → lit.var ≤ vars → Conflicts cs (trail ++ lit ∷ []) → SameLiterals (denied ++ negation lit ∷ []) line → IsClause line → IsLesson cs assumed vars line
  descends_lesson vars over low high conflict same rising = record {
    lawful = descends_conflict conflict same;
    fresh = descends_new same;
    over = learnt_over vars over low high same;
    rising = rising;
  }

pub over_push : (vars : ℕ) (xs : List Literal) (lit : Literal) → IsOver vars xs → 1 ≤ lit.var → lit.var ≤ vars → IsOver vars (xs ++ negation lit ∷ [])
over_push vars xs lit over low high l h =
    let f : Literal → ℕ = λ x. x.var in
    elim (Contains-push_cases xs (negation lit) l h) [ inl q ↦ over l q | inr q ↦ let e : lit.var ≡ l.var = ap f q in (omega arith, omega arith) ]

pub over_none : (vars : ℕ) → IsOver vars []
over_none vars l h = absurd (Contains-none l h)

pub descends_start : (cs : List (List Literal)) (xs trail : List Literal) → xs ≡ [] → Extends cs xs trail → All (IsSettled trail) cs → Descends cs [] trail []
descends_start cs xs trail e ext settled = record {
  settled = settled;
  assumptions = λ l h. absurd (Contains-none l h);
  denials = λ l h. absurd (Contains-none l h);
  forced = let P : List Literal → Type 0 = λ x. (l : Literal) → Contains trail l → Propagates cs x l in subst P e ext.forced;
}

-- one more assumption that stands in the trail
pub descends_more : (cs : List (List Literal)) (all : List Literal) (i : ℕ) (lit : Literal) (trail denied : List Literal) → i < length all → lit ≡ get_or all i lit → Descends cs (take i all) trail denied → Contains trail lit → Descends cs (take (i + 1) all) trail denied
descends_more cs all i lit trail denied within here d now = record {
  settled = d.settled;
  assumptions = λ l h.
      let P : Literal → Type 0 = λ x. Contains trail x in
      let every : All (Contains trail) (take (i + 1) all) =
      All-more (Contains trail) all i lit within
      (All-weaker (Contains (take i all)) (Contains trail) d.assumptions (take i all) (All-contains_itself (take i all)))
      (subst P here now)
      in
      All-contains (Contains trail) (take (i + 1) all) l every h;
  denials = d.denials;
  forced = d.forced;
}

pub descends_all : (cs : List (List Literal)) (all : List Literal) (i : ℕ) (trail denied : List Literal) → length all ≤ i → Descends cs (take i all) trail denied → Descends cs all trail denied
descends_all cs all i trail denied h d = rw take_all at d

pub refuted_at_once : (cs : List (List Literal)) (all xs : List Literal) → xs ≡ [] → Conflicts cs xs → HasRup (cs ++ units all) []
refuted_at_once cs all xs e h =
    let P : List Literal → Type 0 = λ x. Conflicts cs x in
    conflicts_along cs (cs ++ units all) [] [] (λ c q. Contains-append_left cs (units all) c q) (λ l q. absurd (Contains-none l q)) (subst P e h)

pub assumed_over : (vars : ℕ) (all : List Literal) (i : ℕ) (lit : Literal) → i < length all → lit ≡ get_or all i lit → IsOver vars all → (1 ≤ lit.var) × (lit.var ≤ vars)
assumed_over vars all i lit within here over = over lit (i, within, sym here)
