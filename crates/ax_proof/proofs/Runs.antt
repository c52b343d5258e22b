-- Laws of trails that go on.
use Rattle.std.proofs.Common.{Option, Some, None, ◌≡◌, ◌≢◌, ℕ, zero, suc, ◌+◌, ◌-◌, ◌<◌, ◌≤◌, List, [], ◌∷◌, ◌++◌, length, get_or, take, map, arith, ◌⊎◌, inl, inr, refl, sym, subst, ap, ◌∙◌, Bool, true, false, add-one, append_assoc, length-append}
use Rattle.std.specs.List.{All, Contains}
use Rattle.std.proofs.lemmas.Bool.{cases_lt}
use Rattle.std.proofs.lemmas.List.{append-nil, take-append-le, get_or_append_left, get_or_push, get_or-take, take_all, take_at, length-take}
use Rattle.std.proofs.Math.Seq.{take-length}
use Rattle.std.proofs.lemmas.List.Elements.{All-more, All-get_or, Contains-append_left, Contains-get_or}
use Rattle.ax_proof.specs.Literal.{Literal, negation, IsBelow}
use Rattle.ax_proof.specs.Propagation.{Propagates, given, unit, Conflicts}
use Rattle.ax_proof.specs.Trail.{TrailState, IsUnit, IsFalsified, IsSettled, IsConsistent}
use Rattle.ax_proof.specs.Uses.{numbered, IsNumber}
use Rattle.ax_proof.specs.Runs.{Begins, IsForcedBy, AreForced, GoesOn, PropagationSays, pushed, StepSays}
use Rattle.ax_proof.proofs.Propagations.{settled_no_conflict}

module _ {X : Type 0} (xs ys : List X) (h : Begins xs ys) where
  pub begins_length : length xs ≤ length ys
  begins_length = let n : length ys ≡ length (xs ++ h.0) = ap length h.1 in omega (arith, length-append xs h.0)

  pub begins_take : (k : ℕ) → k ≤ length xs → take k ys ≡ take k xs
  begins_take k within = ap (λ (z : List X). take k z) h.1 ∙ take-append-le k xs h.0 within

  pub begins_get : (k : ℕ) (d : X) → k < length xs → get_or ys k d ≡ get_or xs k d
  begins_get k d within = ap (λ (z : List X). get_or z k d) h.1 ∙ get_or_append_left xs h.0 d k within

  pub begins_contains : (x : X) → Contains xs x → Contains ys x
  begins_contains x q = let P : List X → Type 0 = λ z. Contains z x in subst P (sym h.1) (Contains-append_left xs h.0 x q)

pub begins_itself : {X : Type 0} (xs : List X) → Begins xs xs
begins_itself xs = ([], sym (append-nil xs))

pub begins_push : {X : Type 0} (xs : List X) (x : X) → Begins xs (xs ++ x ∷ [])
begins_push xs x = (x ∷ [], refl)

pub begins_along : {X : Type 0} (xs ys zs : List X) → Begins xs ys → Begins ys zs → Begins xs zs
begins_along {X} xs ys zs (r, e) (s, f) = (r ++ s, f ∙ (ap (λ (z : List X). z ++ s) e ∙ append_assoc xs r s))

pub numbered_next : (cs : List (List Literal)) (i : ℕ) → numbered cs (i + 1) ≡ get_or cs i []
numbered_next cs i = rw add-one refl

-- the clause of a number stands in the list
pub numbered_stands : (cs : List (List Literal)) (n : ℕ) → IsNumber cs n → Contains cs (numbered cs n)
numbered_stands cs zero (low, high) = absurd (omega arith)
numbered_stands cs (suc n) (low, high) = Contains-get_or cs n [] (omega arith)

pub goes_on_itself : (cs : List (List Literal)) (t : TrailState) → GoesOn cs t t
goes_on_itself cs t = record {
  size = refl;
  lits = begins_itself t.lits;
  reasons = begins_itself t.reasons;
  paired = omega arith;
  forced = λ k d from lt. absurd (omega arith);
}

pub goes_on_push : (cs : List (List Literal)) (t : TrailState) (l : Literal) (n : ℕ) → length t.reasons ≡ length t.lits → IsForcedBy cs t.lits n l → GoesOn cs t (pushed t l n)
goes_on_push cs t l n paired by = record {
  size = refl;
  lits = begins_push t.lits l;
  reasons = begins_push t.reasons n;
  paired = omega (arith, length-append t.lits (l ∷ []), length-append t.reasons (n ∷ []));
  forced = λ k d from lt.
      let k_is : k ≡ length t.lits = omega (arith, length-append t.lits (l ∷ [])) in
      let front : take k (t.lits ++ l ∷ []) ≡ t.lits = take_at t.lits (l ∷ []) k (sym k_is) in
      let reason : get_or (t.reasons ++ n ∷ []) k 0 ≡ n = get_or_push t.reasons n 0 k (paired ∙ sym k_is) in
      let here : get_or (t.lits ++ l ∷ []) k d ≡ l = get_or_push t.lits l d k (sym k_is) in
      rw (front, reason, here) by;
}

pub goes_on_along : (cs : List (List Literal)) (old now new : TrailState) → length old.reasons ≡ length old.lits → GoesOn cs old now → GoesOn cs now new → GoesOn cs old new
goes_on_along cs old now new paired f g = record {
  size = g.size ∙ f.size;
  lits = begins_along old.lits now.lits new.lits f.lits g.lits;
  reasons = begins_along old.reasons now.reasons new.reasons f.reasons g.reasons;
  paired = let a = f.paired in let b = g.paired in omega arith;
  forced = λ k d from lt.
      elim (cases_lt k (length now.lits)) [
        | inl here ↦
            let a = f.paired in
            let front : take k new.lits ≡ take k now.lits = begins_take now.lits new.lits g.lits k (omega arith) in
            let reason : get_or new.reasons k 0 ≡ get_or now.reasons k 0 = begins_get now.reasons new.reasons g.reasons k 0 (omega arith) in
            let there : get_or new.lits k d ≡ get_or now.lits k d = begins_get now.lits new.lits g.lits k d here in
            rw (front, reason, there) (f.forced k d from here)
        | inr past ↦ g.forced k d past lt
      ];
}

-- what a trail goes on by follows from its start
module _ (cs : List (List Literal)) (start : List Literal) (from : ℕ) (lits : List Literal) (reasons : List ℕ) (forced : AreForced cs from lits reasons) (begins : (l : Literal) → Contains (take from lits) l → Contains start l) where
  propagates_at : (n k : ℕ) (d : Literal) → k < n → k < length lits → Propagates cs start (get_or lits k d)
  propagates_at zero k d kn kl = absurd (omega arith)
  propagates_at (suc n) k d kn kl =
      elim (cases_lt k from) [
        | inl early ↦
            let short : k < length (take from lits) = omega (arith, length-take from lits) in
            given (begins (get_or lits k d) (let P : Literal → Type 0 = λ x. Contains (take from lits) x in subst P (get_or-take from lits k d early) (Contains-get_or (take from lits) k d short)))
        | inr late ↦
            let by = forced k d late kl in
            unit (numbered cs (get_or reasons k 0)) (numbered_stands cs (get_or reasons k 0) by.0) by.1.0 (λ m min ne.
            let (j, jl, e) = by.1.2 m min ne in
            let jk : j < k = omega (arith, length-take k lits) in
            let same : get_or lits j (negation m) ≡ negation m = sym (get_or-take k lits j (negation m) jk) ∙ e in
            let P : Literal → Type 0 = λ x. Propagates cs start x in
            subst P same (propagates_at n j (negation m) (omega arith) (omega arith)))
      ]

  pub propagates_all : (l : Literal) → Contains lits l → Propagates cs start l
  propagates_all l (k, kl, e) = let P : Literal → Type 0 = λ x. Propagates cs start x in subst P e (propagates_at (suc k) k l (omega arith) kl)

module _ (cs : List (List Literal)) (old new : TrailState) (goes : GoesOn cs old new) where
  pub goes_on_propagates : (l : Literal) → Contains new.lits l → Propagates cs old.lits l
  goes_on_propagates =
      let same : take (length old.lits) new.lits ≡ old.lits = begins_take old.lits new.lits goes.lits (length old.lits) (omega arith) ∙ take-length old.lits in
      let P : List Literal → Type 0 = λ x. (l : Literal) → Contains x l → Contains old.lits l in
      propagates_all cs old.lits (length old.lits) new.lits new.reasons goes.forced (subst P (sym same) (λ l h. h))

  pub false_conflicts : (n : ℕ) → PropagationSays cs new.lits (Some n) → Conflicts cs old.lits
  false_conflicts n (number, false_clause) = (numbered cs n, numbered_stands cs n number, λ l lin. goes_on_propagates (negation l) (false_clause l lin))

  pub quiet_no_conflict : IsConsistent new.lits → All (IsSettled new.lits) cs → Conflicts cs old.lits → ⊥
  quiet_no_conflict ok settled h = settled_no_conflict cs old.lits new.lits ok settled (begins_contains old.lits new.lits goes.lits) h

pub same_state : (s t : TrailState) → s.lits ≡ t.lits → s.reasons ≡ t.reasons → s.size ≡ t.size → s ≡ t
same_state s t e f g =
    let A : List Literal → TrailState = λ x. record { lits = x; reasons = s.reasons; size = s.size } in
    let B : List ℕ → TrailState = λ x. record { lits = t.lits; reasons = x; size = s.size } in
    let C : ℕ → TrailState = λ x. record { lits = t.lits; reasons = t.reasons; size = x } in
    ap A e ∙ (ap B f ∙ ap C g)

pub unit_below : (size : ℕ) (trail c : List Literal) (u : Literal) → IsBelow size c → IsUnit trail c u → u.var < size
unit_below size trail c u below (uin, o, others) = below u uin

-- one clause after another
module _ (cs : List (List Literal)) (i : ℕ) (c : List Literal) (old now new : TrailState) (within : i < length cs) (here : c ≡ numbered cs (i + 1)) where
  clause_is : get_or cs i [] ≡ c
  clause_is = sym (here ∙ numbered_next cs i)

  is_number : IsNumber cs (i + 1)
  is_number = (omega arith, omega arith)

  pub step_below : now.size ≡ old.size → All (IsBelow old.size) cs → IsBelow now.size c
  step_below e below =
      let P : ℕ → Type 0 = λ n. IsBelow n c in
      let Q : List Literal → Type 0 = λ x. IsBelow old.size x in
      subst P (sym e) (subst Q clause_is (below i [] within))

  pub step_false : StepSays c (i + 1) now new false → PropagationSays cs new.lits (Some (i + 1))
  step_false (same, h) =
      let P : TrailState → Type 0 = λ t. IsFalsified t.lits c in
      let Q : List Literal → Type 0 = λ x. IsFalsified new.lits x in
      (is_number, subst Q here (subst P (sym same) h))

  module _ (paired : length old.reasons ≡ length old.lits) (goes : GoesOn cs old now) where
    pub step_goes_on : (b : Bool) → StepSays c (i + 1) now new b → GoesOn cs old new
    step_goes_on false (same, h) = let P : TrailState → Type 0 = λ t. GoesOn cs old t in subst P (sym same) goes
    step_goes_on true (inl (same, h)) = let P : TrailState → Type 0 = λ t. GoesOn cs old t in subst P (sym same) goes
    step_goes_on true (inr (l, by, same)) =
        let P : TrailState → Type 0 = λ t. GoesOn cs old t in
        let Q : List Literal → Type 0 = λ x. IsUnit now.lits x l in
        let p = goes.paired in
        let push : GoesOn cs now (pushed now l (i + 1)) = goes_on_push cs now l (i + 1) (omega arith) (is_number, subst Q here by) in
        subst P (sym same) (goes_on_along cs old now (pushed now l (i + 1)) paired goes push)

    pub step_settled : (length now.lits ≡ length old.lits → All (IsSettled now.lits) (take i cs)) → StepSays c (i + 1) now new true → length new.lits ≡ length old.lits → All (IsSettled new.lits) (take (i + 1) cs)
    step_settled before (inl (same, h)) e =
        let P : TrailState → Type 0 = λ t. All (IsSettled t.lits) (take (i + 1) cs) in
        let Q : List Literal → Type 0 = λ x. IsSettled now.lits x in
        let n : length new.lits ≡ length now.lits = ap (λ (t : TrailState). length t.lits) same in
        subst P (sym same) (All-more (IsSettled now.lits) cs i [] within (before (omega arith)) (subst Q (sym clause_is) h))
    step_settled before (inr (l, by, same)) e =
        let n : length new.lits ≡ length (now.lits ++ l ∷ []) = ap (λ (t : TrailState). length t.lits) same in
        let m = begins_length old.lits now.lits goes.lits in
        absurd (omega (arith, length-append now.lits (l ∷ [])))

pub all_settled : (cs : List (List Literal)) (trail : List Literal) (i : ℕ) → length cs ≤ i → All (IsSettled trail) (take i cs) → All (IsSettled trail) cs
all_settled cs trail i past h = rw take_all at h

pub below_along : (cs : List (List Literal)) (old new : TrailState) → GoesOn cs old new → All (IsBelow old.size) cs → All (IsBelow new.size) cs
below_along cs old new goes below = let P : ℕ → Type 0 = λ n. All (IsBelow n) cs in subst P (sym goes.size) below
