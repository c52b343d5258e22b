-- Laws of lines with their uses.
use Rattle.std.proofs.Common.{◌≡◌, ◌↔◌, ◌⊎◌, ℕ, zero, suc, ◌+◌, ◌-◌, ◌<◌, ◌≤◌, true, false, List, [], ◌∷◌, ◌++◌, length, get_or, take, map, arith, inl, inr, refl, sym, subst, ap, ◌∙◌, IsTrue, length-append, drop}
use Rattle.std.specs.Global.{Vec}
use Rattle.std.specs.List.{Contains}
use Rattle.std.proofs.Math.Seq.{take-length}
use Rattle.std.proofs.lemmas.List.{get_or_append_left, get_or_push, map_push, get_or-take, drop_more, drop_at, length-drop, length-take-le, length-map}
use Rattle.std.proofs.lemmas.List.Elements.{Contains-push_cases}
use Rattle.std.proofs.lemmas.List.Sums.{sum_by-cons}
use borrow.Author.Count.{below_more}
use Rattle.ax_proof.specs.Literal.{Literal, negation}
use Rattle.ax_proof.specs.Propagation.{Propagates, given, unit, Conflicts, HasRup}
use Rattle.ax_proof.specs.Trail.{TrailState, IsFalsified, IsUnit, HasTwoOpen, Judges}
use Rattle.ax_proof.specs.declared.trail.Judgement.TheVariants.{Satisfied}
use Rattle.ax_proof.specs.Lines.{line_at}
use Rattle.ax_proof.specs.Uses.{numbered, IsNumber, Forces, Refutes, final, then, IsRight, uses_at, lists, named_literals}
use Rattle.ax_proof.specs.Runs.{GoesOn, AreForced}
use Rattle.ax_proof.proofs.Runs.{numbered_stands, begins_take}
use Rattle.ax_proof.proofs.Checks.{line_is}
use Rattle.ax_proof.proofs.Literals.{same_or_other}

-- a line that is right follows by unit propagation
pub refutes_conflicts : (cs : List (List Literal)) (assumed : List Literal) {trail : List Literal} {uses : List ℕ} → ((l : Literal) → Contains trail l → Propagates cs assumed l) → Refutes cs trail uses → Conflicts cs assumed
refutes_conflicts cs assumed known (final {trail} {number} is_number false_clause) =
    (numbered cs number, numbered_stands cs number is_number, λ l lin. known (negation l) (false_clause l lin))
refutes_conflicts cs assumed known (then {trail} {number} {rest} u is_number (u_in, is_open, others) after) =
    let follows : Propagates cs assumed u = unit (numbered cs number) (numbered_stands cs number is_number) u_in (λ m min ne. known (negation m) (others m min ne)) in
    refutes_conflicts cs assumed
    (λ l h. elim (Contains-push_cases trail u l h) [
      | inl q ↦ known l q
      | inr q ↦ let P : Literal → Type 0 = λ z. Propagates cs assumed z in subst P q follows
    ])
    after

pub right_lawful : (cs : List (List Literal)) (line : List Literal) (uses : List ℕ) → IsRight cs line uses → HasRup cs line
right_lawful cs line uses right = refutes_conflicts cs (map negation line) (λ l h. given h) right

-- the trail before propagation
pub front_is : (cs : List (List Literal)) (old new : TrailState) (n : ℕ) → GoesOn cs old new → n ≡ length old.lits → take n new.lits ≡ old.lits
front_is cs old new n goes e =
    ap (λ (k : ℕ). take k new.lits) e ∙ (begins_take old.lits new.lits goes.lits (length old.lits) (omega arith) ∙ take-length old.lits)

pub right_found : (cs : List (List Literal)) (old new : TrailState) (n : ℕ) (line : List Literal) (uses : List ℕ) → GoesOn cs old new → n ≡ length old.lits → old.lits ≡ map negation line → Refutes cs (take n new.lits) uses → IsRight cs line uses
right_found cs old new n line uses goes e denied h =
    let S : List Literal → Type 0 = λ z. Refutes cs z uses in
    subst S (front_is cs old new n goes e ∙ denied) h

pub forced_from : (cs : List (List Literal)) (old new : TrailState) (n : ℕ) → GoesOn cs old new → n ≡ length old.lits → AreForced cs n new.lits new.reasons
forced_from cs old new n goes e = let S : ℕ → Type 0 = λ k. AreForced cs k new.lits new.reasons in subst S (sym e) goes.forced

-- one line after another
module _ (cs ds lines : List (List Literal)) (at : ℕ) (line : List Literal) (same : ds ≡ cs) (within : at < length lines) (here : line ≡ get_or lines at line) where
  right_here : (uses : List ℕ) → IsRight (ds ++ take at lines) line uses → IsRight (cs ++ take at lines) (line_at lines at) uses
  right_here uses h =
      let family : List (List Literal) → Type 0 = λ x. IsRight (x ++ take at lines) (line_at lines at) uses in
      let other : List Literal → Type 0 = λ x. IsRight (ds ++ take at lines) x uses in
      subst family same (subst other (line_is cs ds lines at line same within here) h)

  pub rights_more : (all new : List (Vec ℕ)) (uses : Vec ℕ) → length all ≡ at → new ≡ all ++ uses ∷ []
      → ((k : ℕ) → k < at → IsRight (cs ++ take k lines) (line_at lines k) (uses_at (lists all) k))
      → IsRight (ds ++ take at lines) line uses.items
      → (k : ℕ) → k < at + 1 → IsRight (cs ++ take k lines) (line_at lines k) (uses_at (lists new) k)
  rights_more all new uses count pushed before now =
      let family : ℕ → Type 0 = λ k. IsRight (cs ++ take k lines) (line_at lines k) (uses_at (lists new) k) in
      let held : List ℕ = uses.items in
      let shown : lists new ≡ lists all ++ held ∷ [] = ap (λ (z : List (Vec ℕ)). lists z) pushed ∙ map_push (λ (u : Vec ℕ). u.items) all uses in
      let n : length (lists all) ≡ at = length-map all (λ (u : Vec ℕ). u.items) ∙ count in
      let old : (k : ℕ) → k < at → family k = λ k kl.
      let S : List ℕ → Type 0 = λ z. IsRight (cs ++ take k lines) (line_at lines k) z in
      let e : uses_at (lists new) k ≡ uses_at (lists all) k = ap (λ (z : List (List ℕ)). get_or z k []) shown ∙ get_or_append_left (lists all) (held ∷ []) [] k (omega arith) in
      subst S (sym e) (before k kl)
      in
      let latest : family at =
      let S : List ℕ → Type 0 = λ z. IsRight (cs ++ take at lines) (line_at lines at) z in
      let e : uses_at (lists new) at ≡ held = ap (λ (z : List (List ℕ)). get_or z at []) shown ∙ get_or_push (lists all) held [] at n in
      subst S (sym e) (right_here held now)
      in
      below_more family at old latest

-- how used clauses begin
abbrev pub Begun : List (List Literal) → List Literal → List ℕ → Type 0
Begun cs trail [] = ⊥
Begun cs trail (number ∷ rest) =
    (IsNumber cs number × IsFalsified trail (numbered cs number) × (rest ≡ []))
    ⊎ (IsNumber cs number × ((u : Literal) × IsUnit trail (numbered cs number) u × Refutes cs (trail ++ u ∷ []) rest))

pub begun : (cs : List (List Literal)) {trail : List Literal} {uses : List ℕ} → Refutes cs trail uses → Begun cs trail uses
begun cs (final is_number false_clause) = inl (is_number, false_clause, refl)
begun cs (then u is_number is_unit rest) = inr (is_number, (u, is_unit, rest))

-- the one open literal of a clause
pub unit_unique : (trail c : List Literal) (u w : Literal) → IsUnit trail c u → IsUnit trail c w → u ≡ w
unit_unique trail c u w (u_in, u_open, u_others) (w_in, w_open, w_others) =
    elim (same_or_other u w) [ inl e ↦ e | inr ne ↦ absurd (u_open.1 (w_others u u_in ne)) ]

pub unit_not_false : (trail c : List Literal) (u : Literal) → IsUnit trail c u → IsFalsified trail c → ⊥
unit_not_false trail c u (u_in, u_open, u_others) h = u_open.1 (h u u_in)

pub true_not_unit : (trail c : List Literal) (u : Literal) → Judges trail c Satisfied → IsUnit trail c u → ⊥
true_not_unit trail c u (l, lin, (stands, alone)) (u_in, u_open, u_others) =
    elim (same_or_other l u) [
      | inl e ↦ let P : Literal → Type 0 = λ z. Contains trail z in u_open.0 (subst P e stands)
      | inr ne ↦ alone (u_others l lin ne)
    ]

pub true_not_false : (trail c : List Literal) → Judges trail c Satisfied → IsFalsified trail c → ⊥
true_not_false trail c (l, lin, (stands, alone)) h = alone (h l lin)

pub two_not_unit : (trail c : List Literal) (u : Literal) → HasTwoOpen trail c → IsUnit trail c u → ⊥
two_not_unit trail c u (a, b, differ, ain, bin, aopen, bopen) (u_in, u_open, u_others) =
    elim (same_or_other a u) [
      | inr ne ↦ aopen.1 (u_others a ain ne)
      | inl e ↦ bopen.1 (u_others b bin (λ q. differ (e ∙ sym q)))
    ]

pub two_not_false : (trail c : List Literal) → HasTwoOpen trail c → IsFalsified trail c → ⊥
two_not_false trail c (a, b, differ, ain, bin, aopen, bopen) h = aopen.1 (h a ain)

-- a used clause that forces a literal, before the rest
module _ (cs : List (List Literal)) (old new : List Literal) (number : ℕ) (rest : List ℕ) where
  pub refutes_forced : Forces cs number old new true → Refutes cs old (number ∷ rest) ↔ Refutes cs new rest
  refutes_forced (is_number, (u, is_unit, pushed)) =
      let P : List Literal → Type 0 = λ z. Refutes cs z rest in (
        (λ h. elim (begun cs h) [
          | inl (n, false_clause, e) ↦ absurd (unit_not_false old (numbered cs number) u is_unit false_clause)
          | inr (n, other) ↦
              let (w, w_unit, after) = other in
              let Q : Literal → Type 0 = λ z. Refutes cs (old ++ z ∷ []) rest in
              subst P (sym pushed) (subst Q (unit_unique old (numbered cs number) w u w_unit is_unit) after)
        ]),
        (λ h. then u is_number is_unit (subst P pushed h)),
      )

  pub refutes_stuck : Forces cs number old new false → (rest ≡ [] → ⊥) → Refutes cs old (number ∷ rest) → ⊥
  refutes_stuck none more h =
      elim (begun cs h) [
        | inl (n, false_clause, e) ↦ more e
        | inr (n, other) ↦ let (w, w_unit, after) = other in none n w w_unit
      ]

pub refutes_none : (cs : List (List Literal)) (trail : List Literal) → Refutes cs trail [] → ⊥
refutes_none cs trail h = begun cs h

pub refutes_last : (cs : List (List Literal)) (trail : List Literal) (number : ℕ) → Refutes cs trail (number ∷ []) → IsNumber cs number × IsFalsified trail (numbered cs number)
refutes_last cs trail number h =
    elim (begun cs h) [
      | inl (n, false_clause, e) ↦ (n, false_clause)
      | inr (n, other) ↦ let (w, w_unit, after) = other in absurd (refutes_none cs (trail ++ w ∷ []) after)
    ]

-- the clauses before a limit, by the same numbers
module _ (cs : List (List Literal)) (limit number : ℕ) (within : limit ≤ length cs) where
  pub number_before : 1 ≤ number → number < limit → IsNumber (take (limit - 1) cs) number
  number_before low high = (low, (let n : length (take (limit - 1) cs) ≡ limit - 1 = length-take-le (limit - 1) cs (omega arith) in omega arith))

  pub number_below : IsNumber (take (limit - 1) cs) number → (1 ≤ number) × (number < limit)
  number_below (low, high) = let n : length (take (limit - 1) cs) ≡ limit - 1 = length-take-le (limit - 1) cs (omega arith) in (low, omega arith)

pub numbered_before : (cs : List (List Literal)) (limit number : ℕ) → number < limit → numbered (take (limit - 1) cs) number ≡ numbered cs number
numbered_before cs limit zero h = refl
numbered_before cs limit (suc n) h = get_or-take (limit - 1) cs n [] (omega arith)

pub not_true : IsTrue false → ⊥
not_true e = cc

-- a clause before the limit, judged
module _ (cs : List (List Literal)) (limit number : ℕ) (within : limit ≤ length cs) (low : 1 ≤ number) (below : number < limit) (trail : List Literal) where
  pub refutes_false : IsFalsified trail (numbered cs number) → Refutes (take (limit - 1) cs) trail (number ∷ [])
  refutes_false h =
      let P : List Literal → Type 0 = λ c. IsFalsified trail c in
      final (number_before cs limit number within low below) (subst P (sym (numbered_before cs limit number below)) h)

  pub false_from : Refutes (take (limit - 1) cs) trail (number ∷ []) → IsFalsified trail (numbered cs number)
  false_from h =
      let P : List Literal → Type 0 = λ c. IsFalsified trail c in
      subst P (numbered_before cs limit number below) (refutes_last (take (limit - 1) cs) trail number h).1

  pub forces_none : (new : List Literal) → ((u : Literal) → IsUnit trail (numbered cs number) u → ⊥) → Forces (take (limit - 1) cs) number trail new false
  forces_none new none is_number u h =
      let P : List Literal → Type 0 = λ c. IsUnit trail c u in
      none u (subst P (numbered_before cs limit number below) h)

  pub forces_one : (new : List Literal) (u : Literal) → IsUnit trail (numbered cs number) u → new ≡ trail ++ u ∷ [] → Forces (take (limit - 1) cs) number trail new true
  forces_one new u h pushed =
      let P : List Literal → Type 0 = λ c. IsUnit trail c u in
      (number_before cs limit number within low below, (u, subst P (sym (numbered_before cs limit number below)) h, pushed))

-- one use after another, with a last one behind
module _ (cs : List (List Literal)) (start now : List Literal) (uses firsts : List ℕ) (last i : ℕ) (split : uses ≡ firsts ++ last ∷ []) (same : Refutes cs start uses ↔ Refutes cs now (drop i uses)) where
  use_here : i < length firsts → drop i uses ≡ get_or firsts i 0 ∷ drop (i + 1) uses
  use_here within =
      let n : length uses ≡ length (firsts ++ last ∷ []) = ap (λ (x : List ℕ). length x) split in
      let at : get_or uses i 0 ≡ get_or firsts i 0 = ap (λ (x : List ℕ). get_or x i 0) split ∙ get_or_append_left firsts (last ∷ []) 0 i within in
      drop_more uses i 0 (omega (arith, length-append firsts (last ∷ []))) ∙ ap (λ (x : ℕ). x ∷ drop (i + 1) uses) at

  pub uses_stuck : i < length firsts → (new : List Literal) → Forces cs (get_or firsts i 0) now new false → Refutes cs start uses → ⊥
  uses_stuck within new none h =
      let P : List ℕ → Type 0 = λ x. Refutes cs now x in
      let n : length uses ≡ length (firsts ++ last ∷ []) = ap (λ (x : List ℕ). length x) split in
      refutes_stuck cs now new (get_or firsts i 0) (drop (i + 1) uses) none
      (λ e. let m : length (drop (i + 1) uses) ≡ 0 = ap (λ (x : List ℕ). length x) e in omega (arith, length-append firsts (last ∷ []), length-drop (i + 1) uses))
      (subst P (use_here within) (same.0 h))

  pub uses_forced : i < length firsts → (new : List Literal) → Forces cs (get_or firsts i 0) now new true → Refutes cs start uses ↔ Refutes cs new (drop (i + 1) uses)
  uses_forced within new one =
      let P : List ℕ → Type 0 = λ x. Refutes cs now x in
      let step = refutes_forced cs now new (get_or firsts i 0) (drop (i + 1) uses) one in (
        (λ h. step.0 (subst P (use_here within) (same.0 h))),
        (λ h. same.1 (subst P (sym (use_here within)) (step.1 h))),
      )

  pub uses_last : length firsts ≤ i → i ≤ length firsts → Refutes cs start uses ↔ Refutes cs now (last ∷ [])
  uses_last past within =
      let P : List ℕ → Type 0 = λ x. Refutes cs now x in
      let e : drop i uses ≡ last ∷ [] = ap (λ (x : List ℕ). drop i x) split ∙ drop_at firsts (last ∷ []) i (omega arith) in
      ((λ h. subst P e (same.0 h)), (λ h. same.1 (subst P (sym e) h)))

-- the steps that are left
pub named_step : (cs : List (List Literal)) (uses firsts : List ℕ) (last i : ℕ) → uses ≡ firsts ++ last ∷ [] → i < length firsts → named_literals cs (drop i uses) ≡ length (numbered cs (get_or firsts i 0)) + named_literals cs (drop (i + 1) uses)
named_step cs uses firsts last i split within =
    let n : length uses ≡ length (firsts ++ last ∷ []) = ap (λ (x : List ℕ). length x) split in
    let at : get_or uses i 0 ≡ get_or firsts i 0 = ap (λ (x : List ℕ). get_or x i 0) split ∙ get_or_append_left firsts (last ∷ []) 0 i within in
    let e : drop i uses ≡ get_or firsts i 0 ∷ drop (i + 1) uses = drop_more uses i 0 (omega (arith, length-append firsts (last ∷ []))) ∙ ap (λ (x : ℕ). x ∷ drop (i + 1) uses) at in
    ap (λ (x : List ℕ). named_literals cs x) e ∙ sum_by-cons (λ (k : ℕ). length (numbered cs k)) (get_or firsts i 0) (drop (i + 1) uses)
