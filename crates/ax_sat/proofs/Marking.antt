-- Marks of literals, and resolution steps on them.
use Rattle.std.proofs.Common.{◌≡◌, ◌≢◌, ℕ, ◌+◌, ◌<◌, ◌≤◌, List, [], ◌∷◌, ◌++◌, length, take, get_or, map, arith, ◌⊎◌, inl, inr, refl, sym, subst, ap, ◌∙◌, true, false, Bool, Option, Some, None, Ok, Err}
use Rattle.std.specs.Prelude.{Result, IfOk, IfSome}
use Rattle.std.specs.Bool.{OnTrue}
use Rattle.std.specs.List.{All, AllPairs, Contains}
use Rattle.std.proofs.lemmas.Bool.{cases_order}
use Rattle.std.proofs.lemmas.List.{get_or_default, take_all, length-take-le, get_or-take}
use Rattle.std.proofs.lemmas.List.Elements.{Contains-push, Contains-push_cases, Contains-append_left}
use Rattle.ax_proof.specs.Literal.{Literal, negation, IsOver}
use Rattle.ax_proof.specs.Clause.{IsClause, SameLiterals}
use Rattle.ax_proof.specs.Marks.{IsMarked}
use Rattle.ax_proof.specs.Propagation.{Propagates, given, unit}
use Rattle.ax_proof.specs.Trail.{IsOpen, IsConsistent, IsFalsified, IsSettled}
use Rattle.ax_proof.proofs.Lists.{Contains-here, Contains-there, Contains-cons_cases, Contains-take, Contains-mapped, took}
use Rattle.ax_proof.proofs.Literals.{negation_twice, same_or_negated}
use Rattle.ax_proof.proofs.Clauses.{clause_does_not_clash}
use Rattle.ax_sat.specs.Answer.{units}
use Rattle.ax_sat.specs.Marks.{MarksMore}
use Rattle.ax_sat.specs.Search.{IsLesson}
use Rattle.ax_sat.specs.Analysis.{IsIn, AreIn, Suffices, Collects, Explains, StandsOf, FoundIn, IsFrom}
use Rattle.ax_sat.proofs.Learning.{new_line, units_settled}

pub more_itself : (marks : List Bool) → MarksMore marks marks
more_itself marks = record { size = refl; kept = λ v h. h }

pub more_along : (old now new : List Bool) → MarksMore old now → MarksMore now new → MarksMore old new
more_along old now new m n = record { size = n.size ∙ m.size; kept = λ x h. n.kept x (m.kept x h) }

module _ (trail : List Literal) (marks : List Bool) (except : ℕ) (lits : List Literal) (i : ℕ) (lit : Literal) (within : i < length lits) (here : lit ≡ get_or lits i lit) (before : AreIn trail marks except (take i lits)) where
  pub in_skip : lit.var ≡ except → AreIn trail marks except (take (i + 1) lits)
  in_skip e = rw (took lits i lit within here) (λ m h ne. elim (Contains-push_cases (take i lits) lit m h) [
    | inl q ↦ before m q ne
    | inr q ↦ let f : Literal → ℕ = λ x. x.var in absurd (ne (sym (ap f q) ∙ e))
  ])

  pub in_step : (new : List Bool) → MarksMore marks new → IsMarked new lit.var → Contains trail (negation lit) → AreIn trail new except (take (i + 1) lits)
  in_step new more on h = rw (took lits i lit within here) (λ m min ne. elim (Contains-push_cases (take i lits) lit m min) [
    | inl q ↦ (more.kept m.var (before m q ne).0, (before m q ne).1)
    | inr q ↦ let P : Literal → Type 0 = λ x. IsIn trail new x in subst P q (on, h)
  ])

pub in_all : (trail : List Literal) (marks : List Bool) (except : ℕ) (lits : List Literal) (i : ℕ) → length lits ≤ i → AreIn trail marks except (take i lits) → AreIn trail marks except lits
in_all trail marks except lits i all h = rw take_all at h

same_var : (a b : Literal) → (a.var ≡ b.var) ⊎ (a.var ≢ b.var)
same_var a b =
    elim (cases_order a.var b.var) [
      | inl e ↦ inl e
      | inr (inl lt) ↦ inr (omega arith)
      | inr (inr gt) ↦ inr (omega arith)
    ]

-- two literals of a clause with one variable are the same
one_literal : (d : List Literal) (k lit : Literal) → IsClause d → Contains d lit → Contains d k → k.var ≡ lit.var → k ≢ lit → ⊥
one_literal d k lit rising lin kin e ne =
    elim (same_or_negated k lit e) [
      | inl q ↦ ne q
      | inr q ↦ let P : Literal → Type 0 = λ x. Contains d x in clause_does_not_clash d rising (lit, lin, subst P q kin)
    ]

-- a resolution step on marks
pub resolve_marked : (cs : List (List Literal)) (trail : List Literal) (old cleared new : List Bool) (lit : Literal) (d : List Literal)
    → IsConsistent trail → Contains trail lit → IsClause d → Contains cs d → Contains d lit
    → ((v : ℕ) → v ≢ lit.var → get_or old v false ≡ true → get_or cleared v false ≡ true)
    → MarksMore cleared new → AreIn trail new lit.var d
    → Suffices cs trail old → Suffices cs trail new
resolve_marked cs trail old cleared new lit d ok there rising din lin others more marked suf = record {
  conflict = λ xs h. suf.conflict xs (λ m mm.
      elim (same_var m lit) [
        | inl e ↦ elim (same_or_negated m lit e) [
          | inl q ↦ let P : Literal → Type 0 = λ x. Contains trail (negation x) in absurd (ok lit there (subst P q mm.1))
          | inr q ↦
              let P : Literal → Type 0 = λ x. Propagates cs xs (negation x) in
              let Q : Literal → Type 0 = λ x. Propagates cs xs x in
              subst P (sym q) (subst Q (sym (negation_twice lit)) (unit d din lin (λ k kin ne. h k (marked k kin (λ ev. one_literal d k lit rising lin kin ev ne)))))
        ]
        | inr ne ↦ h m (more.kept m.var (others m.var ne mm.0), mm.1)
      ]);
}

pub on_true : (b : Bool) (P Q : Type 0) → (P → Q) → OnTrue b P → OnTrue b Q
on_true true P Q f h = f h
on_true false P Q f h = tt

pub ok_true : {E : Type 0} (r : Result Bool E) (P Q : Type 0) → (P → Q) → IfOk r (λ b. OnTrue b P) → IfOk r (λ b. OnTrue b Q)
ok_true (Ok b) P Q f h = on_true b P Q f h
ok_true (Err e) P Q f h = tt

pub stands_at : (cs : List (List Literal)) (place : ℕ) → place < length cs → Contains cs (get_or cs place [])
stands_at cs place lt = (place, lt, sym (get_or_default cs place [] (get_or cs place []) lt))

some_same : (a b : Literal) → Some a ≡ Some b → a ≡ b
some_same a b e = cc

-- the variable of the literal at a place of the trail has a mark
pub at_below : (trail now : List Literal) (i vars n : ℕ) (lit : Literal) → now ≡ trail → i < length now → lit ≡ get_or now i lit → IsOver vars trail → n ≡ vars + 1 → lit.var < n
at_below trail now i vars n lit e within here over same =
    let P : List Literal → Type 0 = λ x. Contains x lit in
    let h : lit.var ≤ vars = (over lit (subst P e (i, within, sym here))).1 in
    omega arith

pub stands_here : (trail now : List Literal) (i : ℕ) (lit : Literal) → now ≡ trail → i < length now → lit ≡ get_or now i lit → Contains trail lit
stands_here trail now i lit e within here = let P : List Literal → Type 0 = λ x. Contains x lit in subst P e (i, within, sym here)

-- one more variable of those that were marked
module _ (trail : List Literal) (marks : List Bool) (touched : List ℕ) (i x : ℕ) (others : List Literal) (within : i < length touched) (here : x ≡ get_or touched i x) where
  pub found_skip : (first : Option Literal) → (IsMarked marks x → ⊥) → FoundIn trail marks (take i touched) others first → FoundIn trail marks (take (i + 1) touched) others first
  found_skip first off found m h on =
      let P : ℕ → Type 0 = λ n. IsMarked marks n in
      let now = rw (took touched i x within here) at h in
      elim (Contains-push_cases (take i touched) x m.var now) [
        | inl q ↦ found m q on
        | inr e ↦ absurd (off (subst P (sym e) on.0))
      ]

module _ (trail : List Literal) (marks : List Bool) (touched : List ℕ) (i x : ℕ) (others : List Literal) (within : i < length touched) (here : x ≡ get_or touched i x) (ok : IsConsistent trail) (at : ℕ) (t : Literal) (stands : StandsOf trail at x) (t_is : t ≡ get_or trail at t) where
  is_true : Contains trail t
  is_true = (at, stands.0, sym t_is)

  of_x : t.var ≡ x
  of_x = let v : Literal → ℕ = λ z. z.var in ap v t_is ∙ stands.1 t

  the_one : (m : Literal) → x ≡ m.var → Contains trail (negation m) → m ≡ negation t
  the_one m e h =
      elim (same_or_negated m t (sym e ∙ sym of_x)) [
        | inl q ↦ let P : Literal → Type 0 = λ z. Contains trail (negation z) in absurd (ok t is_true (subst P q h))
        | inr q ↦ q
      ]

  pub found_early : (first : Option Literal) → FoundIn trail marks (take i touched) others first → FoundIn trail marks (take (i + 1) touched) (others ++ negation t ∷ []) first
  found_early first found m h on =
      let now = rw (took touched i x within here) at h in
      elim (Contains-push_cases (take i touched) x m.var now) [
        | inl q ↦ elim (found m q on) [
          | inl r ↦ inl (Contains-append_left others (negation t ∷ []) m r)
          | inr r ↦ inr r
        ]
        | inr e ↦ let P : Literal → Type 0 = λ z. Contains (others ++ negation t ∷ []) z in inl (subst P (sym (the_one m e on.1)) (Contains-push others (negation t)))
      ]

  pub found_late : FoundIn trail marks (take i touched) others None → FoundIn trail marks (take (i + 1) touched) others (Some (negation t))
  found_late found m h on =
      let now = rw (took touched i x within here) at h in
      elim (Contains-push_cases (take i touched) x m.var now) [
        | inl q ↦ elim (found m q on) [
          | inl r ↦ inl r
          | inr r ↦ absurd cc
        ]
        | inr e ↦ let f : Literal → Option Literal = λ z. Some z in inr (sym (ap f (the_one m e on.1)))
      ]

  pub before_early : (start : ℕ) → at < start → start ≤ length trail → ((m : Literal) → Contains others m → Contains (take start trail) (negation m)) → (m : Literal) → Contains (others ++ negation t ∷ []) m → Contains (take start trail) (negation m)
  before_early start lt low before m h =
      elim (Contains-push_cases others (negation t) m h) [
        | inl q ↦ before m q
        | inr q ↦
            let P : Literal → Type 0 = λ z. Contains (take start trail) (negation z) in
            let Q : Literal → Type 0 = λ z. Contains (take start trail) z in
            let n : length (take start trail) ≡ start = length-take-le start trail low in
            subst P q (subst Q (sym (negation_twice t)) (at, (omega arith), get_or-take start trail at t lt ∙ sym t_is))
      ]

  pub late_from : (start : ℕ) → start ≤ at → IsFrom trail start (Some (negation t))
  late_from start low = (at, t, low, stands.0, sym t_is, refl)

module _ (trail : List Literal) (marks : List Bool) (start : ℕ) (others : List Literal) (first : Literal) (line : List Literal)
    (low : start ≤ length trail)
    (once : AllPairs (λ (a b : Literal). a.var ≢ b.var) trail) (ok : IsConsistent trail)
    (found : (m : Literal) → IsIn trail marks m → Contains others m ⊎ (Some first ≡ Some m)) (before : (m : Literal) → Contains others m → Contains (take start trail) (negation m))
    (from : IsFrom trail start (Some first))
    (same : SameLiterals (others ++ first ∷ []) line) where
  collect_all : (m : Literal) → IsIn trail marks m → Contains line m
  collect_all m on =
      let P : Literal → Type 0 = λ x. Contains (others ++ first ∷ []) x in
      (same m).0 (elim (found m on) [
        | inl q ↦ Contains-append_left others (first ∷ []) m q
        | inr q ↦ subst P (some_same first m q) (Contains-push others first)
      ])

  collect_same : SameLiterals line (first ∷ others)
  collect_same l = (
    (λ h. elim (Contains-push_cases others first l ((same l).1 h)) [
      | inl q ↦ Contains-there first others l q
      | inr q ↦ let P : Literal → Type 0 = λ x. Contains (first ∷ others) x in subst P q (Contains-here first others)
    ]),
    (λ h. elim (Contains-cons_cases first others l h) [
      | inl q ↦ let P : Literal → Type 0 = λ x. Contains line x in subst P (sym q) ((same first).0 (Contains-push others first))
      | inr q ↦ (same l).0 (Contains-append_left others (first ∷ []) l q)
    ]),
  )

  early : (l : Literal) → Contains (take start trail) l → (j : ℕ) × (j < start) × (get_or trail j l ≡ l)
  early l (j, lt, e) = let n : length (take start trail) ≡ start = length-take-le start trail low in let less : j < start = omega arith in (j, less, sym (get_or-take start trail j l less) ∙ e)

  -- the last literal was not made true before
  not_early : (l : Literal) (k : ℕ) → start ≤ k → k < length trail → get_or trail k l ≡ l → Contains (take start trail) l → ⊥
  not_early l k after within e h =
      let (j, less, f) = early l h in
      let v : Literal → ℕ = λ x. x.var in
      once j k l (omega arith) within (ap v (f ∙ sym e))

  collect_opened : IsOpen (take start trail) first
  collect_opened =
      let (k, l, after, within, e, q) = from in
      let P : Literal → Type 0 = λ x. IsOpen (take start trail) x in
      let Q : Literal → Type 0 = λ x. Contains (take start trail) x in
      subst P (sym q) (
        (λ h. ok l (k, within, e) (Contains-take trail start (negation l) h)),
        (λ h. not_early l k after within e (subst Q (negation_twice l) h)),
      )

  collect_denied : (m : Literal) → Contains line m → Contains trail (negation m)
  collect_denied m h =
      let (k, l, after, within, e, q) = from in
      let P : Literal → Type 0 = λ x. Contains trail (negation x) in
      let Q : Literal → Type 0 = λ x. Contains trail x in
      elim (Contains-push_cases others first m ((same m).1 h)) [
        | inl r ↦ Contains-take trail start (negation m) (before m r)
        | inr r ↦ subst P (sym q ∙ r) (subst Q (sym (negation_twice l)) (k, within, e))
      ]

  pub collected : IsClause line → Collects trail marks start line
  collected rising = record { all = collect_all; first = first; others = others; same = collect_same; before = before; opened = collect_opened; denied = collect_denied; rising = rising }

pub if_both : {X : Type 0} (o : Option X) (P Q R : X → Type 0) → ((x : X) → P x → Q x → R x) → IfSome o P → IfSome o Q → IfSome o R
if_both None P Q R f h k = tt
if_both (Some x) P Q R f h k = f x h k

pub if_some : {X : Type 0} (o : Option X) (P Q : X → Type 0) → ((x : X) → P x → Q x) → IfSome o P → IfSome o Q
if_some None P Q f h = tt
if_some (Some x) P Q f h = f x h

pub suffices_start : (cs : List (List Literal)) (trail : List Literal) (marks : List Bool) (vars place : ℕ) → place < length cs → IsOver vars trail → IsFalsified trail (get_or cs place []) → AreIn trail marks 0 (get_or cs place []) → Suffices cs trail marks
suffices_start cs trail marks vars place within over falsified marked = record {
  conflict = λ xs h. (
    get_or cs place [],
    stands_at cs place within,
    λ m min. h m (marked m min (let o = (over (negation m) (falsified m min)).0 in omega arith)),
  );
}

-- all that were marked
pub found_all : (trail : List Literal) (marks : List Bool) (touched : List ℕ) (i : ℕ) (others : List Literal) (first : Option Literal) → ((x : ℕ) → IsMarked marks x → Contains touched x) → length touched ≤ i → FoundIn trail marks (take i touched) others first → (m : Literal) → IsIn trail marks m → Contains others m ⊎ (first ≡ Some m)
found_all trail marks touched i others first listed all found m on = let P : List ℕ → Type 0 = λ z. Contains z m.var in found m (subst P (sym (take_all i touched all)) (listed m.var on.0)) on

pub explained : (cs : List (List Literal)) (trail : List Literal) (marks : List Bool) (start : ℕ) (line : List Literal) → Suffices cs trail marks → Collects trail marks start line → Explains cs trail start line
explained cs trail marks start line suf c = record {
  lawful = suf.conflict (map negation line) (λ m mm. given (Contains-mapped negation line m (c.all m mm)));
  first = c.first;
  others = c.others;
  same = c.same;
  before = c.before;
  opened = c.opened;
  denied = c.denied;
  rising = c.rising;
}

-- what explains a false clause is a lesson, where the trail before was complete and had the assumptions
pub explained_lesson : (cs : List (List Literal)) (assumed trail : List Literal) (vars start : ℕ) (line : List Literal) → IsConsistent trail → IsOver vars trail → All (IsSettled (take start trail)) cs → ((l : Literal) → Contains assumed l → Contains (take start trail) l) → Explains cs trail start line → IsLesson cs assumed vars line
explained_lesson cs assumed trail vars start line ok over settled stand x = record {
  lawful = x.lawful;
  fresh = new_line (cs ++ units assumed) (take start trail) line x.others x.first (λ l p q. ok l (Contains-take trail start l p) (Contains-take trail start (negation l) q)) (units_settled cs assumed (take start trail) stand settled) x.same x.before x.opened;
  over = λ l h. over (negation l) (x.denied l h);
  rising = x.rising;
}

-- the literal at a place of the trail stands in the clause that forced it
pub forced_here : (trail now : List Literal) (i : ℕ) (lit : Literal) (c : List Literal) → now ≡ trail → lit ≡ get_or now i lit → Contains c (get_or trail i lit) → Contains c lit
forced_here trail now i lit c e here h =
    let P : List Literal → Type 0 = λ x. Contains c (get_or x i lit) in
    let Q : Literal → Type 0 = λ x. Contains c x in
    subst Q (sym here) (subst P (sym e) h)
