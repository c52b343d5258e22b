-- Trails over the variables of a clause list, with the clauses that forced their literals.
use Rattle.std.proofs.Common.{Option, Some, None, IfNone, true, Result, Ok, Err, OnOk, OnErr, ◌≡◌, ℕ, zero, suc, ◌+◌, ◌-◌, ◌<◌, ◌≤◌, List, [], ◌∷◌, ◌++◌, length, get_or, take, arith, ◌⊎◌, inl, inr, sym, subst, ◌∙◌, length-append, length-take}
use Rattle.std.specs.List.{All}
use Rattle.std.proofs.lemmas.Bool.{cases_lt}
use Rattle.std.proofs.lemmas.List.{take-take, get_or-take, take-append-le, get_or_append_left, get_or_push, length-take-le, take_all}
use Rattle.std.proofs.lemmas.List.Elements.{All-contains, All-weaker, Contains-push_cases}
use Rattle.ax_proof.specs.Literal.{Literal, IsOver, IsBelow}
use Rattle.ax_proof.specs.Propagation.{Propagates, given, unit}
use Rattle.ax_proof.specs.Trail.{TrailState, IsTrail, IsUnit, IsFalsified, IsSettled, IsConsistent}
use Rattle.ax_proof.specs.Runs.{IsForcedBy, GoesOn, PropagationSays}
use Rattle.ax_proof.proofs.Lists.{Contains-take, Contains-read, took}
use Rattle.ax_proof.proofs.Propagations.{propagated_stands}
use Rattle.ax_proof.proofs.Runs.{begins_take, begins_get, begins_contains, numbered_next, goes_on_propagates}
use Rattle.ax_watch.specs.Watch.{clause_of, Forces, AreReasons, HasOnlyForced, HasAllForced, WatchSays}

-- a fact of each answer
pub on_either : {A E P Q : Type 0} (r : Result A E) → OnOk r P → OnErr r Q → P ⊎ Q
on_either (Ok v) p q = inl p
on_either (Err e) p q = inr q

-- variables

pub over_wider : (m n : ℕ) (c : List Literal) → m ≤ n → IsOver m c → IsOver n c
over_wider m n c h over l lin = let (low, high) = over l lin in (low, omega arith)

pub all_over_wider : (m n : ℕ) (cs : List (List Literal)) → m ≤ n → All (IsOver m) cs → All (IsOver n) cs
all_over_wider m n cs h over = All-weaker (IsOver m) (IsOver n) (λ c o. over_wider m n c h o) cs over

pub all_below : (size : ℕ) (cs : List (List Literal)) → 1 ≤ size → All (IsOver (size - 1)) cs → All (IsBelow size) cs
all_below size cs h over = All-weaker (IsOver (size - 1)) (IsBelow size) (λ c o l lin. let (low, high) = o l lin in omega arith) cs over

pub over_push : (vars : ℕ) (trail : List Literal) (lit : Literal) → 1 ≤ lit.var → lit.var ≤ vars → IsOver vars trail → IsOver vars (trail ++ lit ∷ [])
over_push vars trail lit low high over l h =
    let P : Literal → Type 0 = λ x. (1 ≤ x.var) × (x.var ≤ vars) in
    elim (Contains-push_cases trail lit l h) [ inl q ↦ over l q | inr q ↦ subst P q (low, high) ]

pub over_take : (vars len : ℕ) (trail : List Literal) → IsOver vars trail → IsOver vars (take len trail)
over_take vars len trail over l h = over l (Contains-take trail len l h)

-- the variables of a clause's literals one after another
module _ (vars : ℕ) (c : List Literal) (i : ℕ) (lit : Literal) (within : i < length c) (here : lit ≡ get_or c i lit) where
  pub over_more : 1 ≤ lit.var → lit.var ≤ vars → IsOver vars (take i c) → IsOver vars (take (i + 1) c)
  over_more low high over = rw (took c i lit within here) (over_push vars (take i c) lit low high over)

  pub not_over : vars < lit.var → IsOver vars c → ⊥
  not_over high over = let h = (over lit (Contains-read c i lit within here)).1 in absurd (omega arith)

propagates_over : (vars : ℕ) (cs : List (List Literal)) (trail : List Literal) → All (IsOver vars) cs → IsOver vars trail → (l : Literal) → Propagates cs trail l → (1 ≤ l.var) × (l.var ≤ vars)
propagates_over vars cs trail over start l (given h) = start l h
propagates_over vars cs trail over start l (unit c cin lin rest) = All-contains (IsOver vars) cs c over cin l lin

-- reasons

IsReason : List (List Literal) → List Literal → List ℕ → ℕ → Literal → Type 0
IsReason cs trail reasons at d = (get_or reasons at 0 ≡ 0) ⊎ IsForcedBy cs (take at trail) (get_or reasons at 0) (get_or trail at d)

forced_by_more : (cs : List (List Literal)) (c : List Literal) (trail : List Literal) (n : ℕ) (l : Literal) → IsForcedBy cs trail n l → IsForcedBy (cs ++ c ∷ []) trail n l
forced_by_more cs c trail zero l ((low, high), u) = absurd (omega arith)
forced_by_more cs c trail (suc n) l ((low, high), u) =
    let P : List Literal → Type 0 = λ x. IsUnit trail x l in
    ((omega arith, omega (arith, length-append cs (c ∷ []))), subst P (sym (get_or_append_left cs (c ∷ []) [] n (omega arith))) u)

pub reasons_add : (cs : List (List Literal)) (c : List Literal) (trail : List Literal) (reasons : List ℕ) → AreReasons cs trail reasons → AreReasons (cs ++ c ∷ []) trail reasons
reasons_add cs c trail reasons before at d lt =
    elim (before at d lt) [ inl z ↦ inl z | inr f ↦ inr (forced_by_more cs c (take at trail) (get_or reasons at 0) (get_or trail at d) f) ]

pub reasons_push : (cs : List (List Literal)) (trail : List Literal) (reasons : List ℕ) (lit : Literal) → length reasons ≡ length trail → AreReasons cs trail reasons → AreReasons cs (trail ++ lit ∷ []) (reasons ++ 0 ∷ [])
reasons_push cs trail reasons lit paired before at d lt =
    elim (cases_lt at (length trail)) [
      | inl early ↦
          let front : take at (trail ++ lit ∷ []) ≡ take at trail = take-append-le at trail (lit ∷ []) (omega arith) in
          let reason : get_or (reasons ++ 0 ∷ []) at 0 ≡ get_or reasons at 0 = get_or_append_left reasons (0 ∷ []) 0 at (omega arith) in
          let there : get_or (trail ++ lit ∷ []) at d ≡ get_or trail at d = get_or_append_left trail (lit ∷ []) d at early in
          rw (front, reason, there) (before at d early)
      | inr late ↦ inl (get_or_push reasons 0 0 at (let n = length-append trail (lit ∷ []) in omega arith))
    ]

pub reasons_take : (cs : List (List Literal)) (trail : List Literal) (reasons : List ℕ) (len : ℕ) → AreReasons cs trail reasons → AreReasons cs (take len trail) (take len reasons)
reasons_take cs trail reasons len before at d lt =
    let n = length-take len trail in
    let early : at < len = omega arith in
    let front : take at (take len trail) ≡ take at trail = take-take at len trail (omega arith) in
    let reason : get_or (take len reasons) at 0 ≡ get_or reasons at 0 = get_or-take len reasons at 0 early in
    let there : get_or (take len trail) at d ≡ get_or trail at d = get_or-take len trail at d early in
    rw (front, reason, there) (before at d (omega arith))

pub paired_push : (trail : List Literal) (reasons : List ℕ) (lit : Literal) → length reasons ≡ length trail → length (reasons ++ 0 ∷ []) ≡ length (trail ++ lit ∷ [])
paired_push trail reasons lit paired = omega (arith, length-append trail (lit ∷ []), length-append reasons (0 ∷ []))

pub paired_take : (trail : List Literal) (reasons : List ℕ) (len : ℕ) → len ≤ length trail → length reasons ≡ length trail → length (take len reasons) ≡ length (take len trail)
paired_take trail reasons len within paired = length-take-le len reasons (omega arith) ∙ sym (length-take-le len trail within)

module _ (cs : List (List Literal)) (old new : TrailState) (goes : GoesOn cs old new) where
  pub paired_along : length old.reasons ≡ length old.lits → length new.reasons ≡ length new.lits
  paired_along paired = let p = goes.paired in omega arith

  pub reasons_along : length old.reasons ≡ length old.lits → AreReasons cs old.lits old.reasons → AreReasons cs new.lits new.reasons
  reasons_along paired before at d lt =
      elim (cases_lt at (length old.lits)) [
        | inl early ↦
            let front : take at new.lits ≡ take at old.lits = begins_take old.lits new.lits goes.lits at (omega arith) in
            let reason : get_or new.reasons at 0 ≡ get_or old.reasons at 0 = begins_get old.reasons new.reasons goes.reasons at 0 (omega arith) in
            let there : get_or new.lits at d ≡ get_or old.lits at d = begins_get old.lits new.lits goes.lits at d early in
            rw (front, reason, there) (before at d early)
        | inr late ↦ inr (goes.forced at d late lt)
      ]

  pub only_forced : HasOnlyForced cs old.lits new.lits
  only_forced = goes_on_propagates cs old new goes

  pub over_along : (vars : ℕ) → All (IsOver vars) cs → IsOver vars old.lits → IsOver vars new.lits
  over_along vars over start l h = propagates_over vars cs old.lits over start l (only_forced l h)

  pub all_forced : IsConsistent new.lits → All (IsSettled new.lits) cs → HasAllForced cs old.lits new.lits
  all_forced ok settled l h = propagated_stands cs old.lits new.lits ok settled (begins_contains old.lits new.lits goes.lits) h

  pub all_forced_none : (found : Option ℕ) → WatchSays cs new.lits found → IsConsistent new.lits → IfNone found (HasAllForced cs old.lits new.lits)
  all_forced_none None settled ok = all_forced ok settled
  all_forced_none (Some place) says ok = tt

-- clauses by place and by number

pub place_says : (cs : List (List Literal)) (trail : List Literal) (place : ℕ) → PropagationSays cs trail (Some (place + 1)) → WatchSays cs trail (Some place)
place_says cs trail place ((low, high), h) =
    let P : List Literal → Type 0 = λ x. IsFalsified trail x in
    (omega arith, subst P (numbered_next cs place) h)

pub number_says : (cs : List (List Literal)) (trail : List Literal) (place : ℕ) → WatchSays cs trail (Some place) → PropagationSays cs trail (Some (place + 1))
number_says cs trail place (within, h) =
    let P : List Literal → Type 0 = λ x. IsFalsified trail x in
    ((omega arith, omega arith), subst P (sym (numbered_next cs place)) h)

pub clause_over : (vars : ℕ) (cs : List (List Literal)) (place : ℕ) (c : List Literal) → place < length cs → c ≡ clause_of cs place → All (IsOver vars) cs → IsOver vars c
clause_over vars cs place c within here over = let P : List Literal → Type 0 = λ x. IsOver vars x in subst P (sym here) (over place [] within)

pub forces_of : (cs : List (List Literal)) (trail : List Literal) (reasons : List ℕ) (at place : ℕ) → AreReasons cs trail reasons → at < length trail → get_or reasons at 0 ≡ place + 1 → Forces cs trail at place
forces_of cs trail reasons at place reasoned lt e =
    let here : (d : Literal) → (place < length cs) × IsUnit (take at trail) (clause_of cs place) (get_or trail at d) = λ d.
    elim (reasoned at d lt) [
      | inl z ↦ absurd (omega arith)
      | inr f ↦
          let P : ℕ → Type 0 = λ n. IsForcedBy cs (take at trail) n (get_or trail at d) in
          let g = subst P e f in
          let Q : List Literal → Type 0 = λ x. IsUnit (take at trail) x (get_or trail at d) in
          (omega arith, subst Q (numbered_next cs place) g.1)
    ]
    in
    ((here (record { var = 0; positive = true })).0, λ d. (here d).1)

-- the size is one more than the number of variables
pub trail_sized : (t : TrailState) → 1 ≤ t.size → IsTrail t → IsTrail (record { lits = t.lits; reasons = t.reasons; size = t.size - 1 + 1 })
trail_sized t low h = record { within = let w = h.within in omega arith; paired = h.paired; once = h.once }

pub goes_on_sized : (cs : List (List Literal)) (old new : TrailState) → GoesOn cs old new → GoesOn cs (record { lits = old.lits; reasons = old.reasons; size = old.size - 1 + 1 }) (record { lits = new.lits; reasons = new.reasons; size = new.size - 1 + 1 })
goes_on_sized cs old new goes = record {
  size = let e = goes.size in omega arith;
  lits = goes.lits;
  reasons = goes.reasons;
  paired = goes.paired;
  forced = goes.forced;
}

pub all_over : (vars : ℕ) (c : List Literal) (i : ℕ) → length c ≤ i → IsOver vars (take i c) → IsOver vars c
all_over vars c i all over = rw take_all at over
