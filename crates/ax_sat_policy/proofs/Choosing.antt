-- Clauses that are marked one by one, unless a part of them is, and those that are watched then.
use Rattle.std.proofs.Common.{◌≡◌, ◌≢◌, ℕ, ◌+◌, ◌-◌, ◌<◌, ◌≤◌, List, [], ◌∷◌, ◌++◌, length, get_or, set, take, arith, inl, inr, sym, subst, ◌∙◌, Bool, true, false, Some, None, get_or-set_other, get_or-set_same}
use Rattle.std.specs.List.{All, Contains}
use Rattle.std.proofs.lemmas.Bool.{cases_lt, cases_order}
use Rattle.std.proofs.lemmas.List.{take_all, get_or_default}
use Rattle.std.proofs.lemmas.List.Elements.{Contains-get_or, Contains-append_left, Contains-push, Contains-push_cases}
use Rattle.ax_proof.specs.Literal.{Literal, IsOver}
use Rattle.ax_proof.specs.Clause.{IsClause, clause_of as made_of}
use Rattle.ax_proof.specs.Marks.{IsMarked}
use Rattle.ax_proof.proofs.Clauses.{clause_of_clause}
use Rattle.ax_proof.proofs.Lists.{Contains-none, took}
use Rattle.ax_watch.specs.Watch.{clause_of}
use Rattle.ax_sat_policy.specs.Core.{IsPart, IsCore, HasMarkedPart, Takes}

-- the literals before a place stand in the list
pub part_none : (part whole : List Literal) → IsPart (take 0 part) whole
part_none part whole l h = absurd (Contains-none l h)

pub part_more : (part whole : List Literal) (i : ℕ) (l : Literal) → i < length part → l ≡ get_or part i l → Contains whole l → IsPart (take i part) whole → IsPart (take (i + 1) part) whole
part_more part whole i l within here there before m h =
    let P : List Literal → Type 0 = λ z. Contains z m in
    let Q : Literal → Type 0 = λ z. Contains whole z in
    elim (Contains-push_cases (take i part) l m (subst P (took part i l within here) h)) [
      | inl q ↦ before m q
      | inr q ↦ subst Q q there
    ]

pub part_every : (part whole : List Literal) (i : ℕ) → length part ≤ i → IsPart (take i part) whole → IsPart part whole
part_every part whole i all h = let P : List Literal → Type 0 = λ z. IsPart z whole in subst P (take_all i part all) h

pub part_there : (cs : List (List Literal)) (marks : List Bool) (place : ℕ) (part whole : List Literal) → place < length cs → IsMarked marks place → part ≡ clause_of cs place → IsPart part whole → HasMarkedPart cs marks whole
part_there cs marks place part whole lt marked e h = let P : List Literal → Type 0 = λ z. IsPart z whole in (place, lt, marked, subst P e h)

-- a mark more
pub mark_keeps : (marks : List Bool) (x k : ℕ) → x < length marks → IsMarked marks k → IsMarked (set marks x true) k
mark_keeps marks x k lt m =
    let other : k ≢ x → IsMarked (set marks x true) k = λ ne. get_or-set_other marks x k true false ne ∙ m in
    elim (cases_order k x) [
      | inl e ↦ let P : ℕ → Type 0 = λ z. IsMarked (set marks x true) z in subst P (sym e) (get_or-set_same marks x true false lt)
      | inr (inl less) ↦ other (λ q. absurd (omega arith))
      | inr (inr more) ↦ other (λ q. absurd (omega arith))
    ]

pub mark_here : (cs : List (List Literal)) (marks : List Bool) (x : ℕ) → x < length cs → x < length marks → HasMarkedPart cs (set marks x true) (clause_of cs x)
mark_here cs marks x there lt = (x, there, get_or-set_same marks x true false lt, λ l h. h)

-- the clauses from this place on have marked parts
abbrev pub AreDone : List (List Literal) → List Bool → ℕ → Type 0
AreDone cs marks from = (k : ℕ) → from ≤ k → k < length cs → HasMarkedPart cs marks (clause_of cs k)

pub done_none : (cs : List (List Literal)) (marks : List Bool) (from : ℕ) → length cs ≤ from → AreDone cs marks from
done_none cs marks from all k low lt = absurd (omega arith)

part_stays : (cs : List (List Literal)) (old new : List Bool) (whole : List Literal) → ((k : ℕ) → IsMarked old k → IsMarked new k) → HasMarkedPart cs old whole → HasMarkedPart cs new whole
part_stays cs old new whole more (place, lt, marked, part) = (place, lt, more place marked, part)

pub done_more : (cs : List (List Literal)) (old new : List Bool) (from : ℕ) → 0 < from → ((k : ℕ) → IsMarked old k → IsMarked new k) → HasMarkedPart cs new (clause_of cs (from - 1)) → AreDone cs old from → AreDone cs new (from - 1)
done_more cs old new from some more here before k low lt =
    let P : ℕ → Type 0 = λ j. HasMarkedPart cs new (clause_of cs j) in
    elim (cases_lt k from) [
      | inl less ↦ let e : from - 1 ≡ k = omega arith in subst P e here
      | inr late ↦ part_stays cs old new (clause_of cs k) more (before k (omega arith) lt)
    ]

pub done_all : (cs : List (List Literal)) (marks : List Bool) (from : ℕ) → from ≤ 0 → AreDone cs marks from → All (HasMarkedPart cs marks) cs
done_all cs marks from low done k d lt =
    let P : List Literal → Type 0 = λ z. HasMarkedPart cs marks z in
    subst P (get_or_default cs k [] d lt) (done k (omega arith) lt)

-- the clauses that are marked, of those before a place
pub record Fills (cs : List (List Literal)) (marks : List Bool) (made : List (List Literal)) (until : ℕ) : Type 0 where
  pub among : (c : List Literal) → Contains made c → Contains cs c
  pub marked : (k : ℕ) → k < until → IsMarked marks k → Contains made (clause_of cs k)

pub fills_none : (cs : List (List Literal)) (marks : List Bool) (made : List (List Literal)) → made ≡ [] → Fills cs marks made 0
fills_none cs marks made none =
    let P : List (List Literal) → Type 0 = λ z. Fills cs marks z 0 in
    subst P (sym none) (record { among = λ c h. absurd (Contains-none c h); marked = λ k h. absurd (omega arith) })

pub fills_more : (cs : List (List Literal)) (marks : List Bool) (old new : List (List Literal)) (i : ℕ) → i < length cs → Takes cs marks i old new → Fills cs marks old i → Fills cs marks new (i + 1)
fills_more cs marks old new i lt (inl (off, same)) f =
    let P : List (List Literal) → Type 0 = λ z. Fills cs marks z (i + 1) in
    subst P (sym same) (record {
      among = f.among;
      marked = λ k h m.
          elim (cases_lt k i) [
            | inl less ↦ f.marked k less m
            | inr late ↦ let e : k ≡ i = omega arith in let Q : ℕ → Type 0 = λ j. IsMarked marks j in absurd (off (subst Q e m))
          ];
    })
fills_more cs marks old new i lt (inr pushed) f =
    let P : List (List Literal) → Type 0 = λ z. Fills cs marks z (i + 1) in
    subst P (sym pushed) (record {
      among = λ d h. elim (Contains-push_cases old (clause_of cs i) d h) [
        | inl q ↦ f.among d q
        | inr q ↦ let Q : List Literal → Type 0 = λ z. Contains cs z in subst Q q (Contains-get_or cs i [] lt)
      ];
      marked = λ k h m.
          elim (cases_lt k i) [
            | inl less ↦ Contains-append_left old (clause_of cs i ∷ []) (clause_of cs k) (f.marked k less m)
            | inr late ↦ let e : i ≡ k = omega arith in let Q : ℕ → Type 0 = λ j. Contains (old ++ clause_of cs i ∷ []) (clause_of cs j) in subst Q e (Contains-push old (clause_of cs i))
          ];
    })

pub fills_core : (cs : List (List Literal)) (marks : List Bool) (made : List (List Literal)) (i : ℕ) → length cs ≤ i → All (HasMarkedPart cs marks) cs → Fills cs marks made i → IsCore made cs
fills_core cs marks made i all core f = record {
  among = f.among;
  parts = λ c (k, lt, e).
      let P : List Literal → Type 0 = λ z. HasMarkedPart cs marks z in
      let (place, there, marked, part) = subst P e (core k c lt) in
      (clause_of cs place, f.marked place (omega arith) marked, part);
}

pub clause_stays : (c d : List Literal) → IsClause c → Some d ≡ made_of c → d ≡ c
clause_stays c d rising made = let e : Some d ≡ Some c = made ∙ sym (clause_of_clause c rising) in cc

pub no_clash_here : (c : List Literal) → IsClause c → None ≡ made_of c → ⊥
no_clash_here c rising made = let e : None ≡ Some c = made ∙ sym (clause_of_clause c rising) in cc

pub over_along : (n m : ℕ) (c d : List Literal) → n ≡ m → c ≡ d → IsOver m d → IsOver n c
over_along n m c d e f over = rw (e, f) over
