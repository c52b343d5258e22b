-- The table of what is known of each variable.
use Rattle.std.proofs.Common.{◌≡◌, ◌≢◌, ℕ, ◌+◌, ◌-◌, ◌<◌, ◌≤◌, List, [], ◌∷◌, ◌++◌, length, get_or, set, take, replicate, arith, ◌⊎◌, inl, inr, refl, sym, subst, ap, ◌∙◌, ◌↔◌, Bool, true, false, not, cond, get_or-set_other, get_or-set_same, length-append, length-set}
use Rattle.std.specs.List.{Contains, count_by, AllPairs}
use Rattle.std.proofs.lemmas.Bool.{cases_order, cases_lt}
use Rattle.std.proofs.lemmas.List.Quantifiers.{all_pairs_push}
use Rattle.std.proofs.Math.ListN.{get_or-append}
use Rattle.std.proofs.Math.Seq.{take-length}
use Rattle.std.proofs.lemmas.List.{take-take, take-append-le, length-take-le, get_or_past, get_or-append_right, get_or-replicate, length-replicate}
use Rattle.std.proofs.lemmas.List.Sums.{sum_by-set, sum_by-append}
use Rattle.std.proofs.lemmas.List.Folds.{sum_by-replicate}
use Rattle.std.proofs.lemmas.List.Elements.{Contains-append_left, Contains-push, Contains-push_cases, Contains-get_or}
use Rattle.ax_proof.specs.Literal.{Literal, negation, IsBelow}
use Rattle.ax_proof.specs.Trail.{IsOpen, Says, IsConsistent}
use Rattle.ax_proof.specs.Truths.{Tabulates, truth_at, with_sign, is_open}
use Rattle.ax_proof.specs.declared.trail.Truth.{Truth}
use Rattle.ax_proof.specs.declared.trail.Truth.TheVariants.{True, False, Open}
use Rattle.ax_proof.proofs.Literals.{negation_other, same_or_negated, once_consistent}

negated_false : (b : Bool) (t : Truth) → with_sign b t ≡ False → with_sign (not b) t ≡ True
negated_false true True e = cc
negated_false true False e = refl
negated_false true Open e = cc
negated_false false True e = refl
negated_false false False e = cc
negated_false false Open e = cc

negated_true : (b : Bool) (t : Truth) → with_sign (not b) t ≡ True → with_sign b t ≡ Open → ⊥
negated_true true True e f = cc
negated_true true False e f = cc
negated_true true Open e f = cc
negated_true false True e f = cc
negated_true false False e f = cc
negated_true false Open e f = cc

not_true_of_open : (t : Truth) → t ≡ Open → t ≡ True → ⊥
not_true_of_open t e f = cc

-- what the table says of a literal, the list says too
pub says : (values : List Truth) (lits : List Literal) (l : Literal) → Tabulates values lits → (t : Truth) → truth_at values l ≡ t → Says lits l t
says values lits l tab True e =
    let stands : Contains lits l = (tab.known l).0 e in
    (stands, λ h. once_consistent lits tab.once l stands h)
says values lits l tab False e =
    let stands : Contains lits (negation l) = (tab.known (negation l)).0 (negated_false l.positive (get_or values l.var Open) e) in
    (stands, λ h. once_consistent lits tab.once l h stands)
says values lits l tab Open e = (
  λ h. not_true_of_open (truth_at values l) e ((tab.known l).1 h),
  λ h. negated_true l.positive (get_or values l.var Open) ((tab.known (negation l)).1 h) e,
)

open_value : (b : Bool) (t : Truth) → (with_sign b t ≡ True → ⊥) → (with_sign (not b) t ≡ True → ⊥) → t ≡ Open
open_value b Open p n = refl
open_value true True p n = absurd (p refl)
open_value true False p n = absurd (n refl)
open_value false True p n = absurd (n refl)
open_value false False p n = absurd (p refl)

-- an open literal's variable is open in the table
open_in_table : (values : List Truth) (lits : List Literal) (lit : Literal) → Tabulates values lits → IsOpen lits lit → get_or values lit.var Open ≡ Open
open_in_table values lits lit tab (p, n) = open_value lit.positive (get_or values lit.var Open) (λ h. p ((tab.known lit).0 h)) (λ h. n ((tab.known (negation lit)).0 h))

signed_true : (b : Bool) → with_sign b (with_sign b True) ≡ True
signed_true true = refl
signed_true false = refl

signed_other : (b : Bool) → with_sign (not b) (with_sign b True) ≡ True → ⊥
signed_other true e = cc
signed_other false e = cc

signed_closed : (b : Bool) → is_open (with_sign b True) ≡ false
signed_closed true = refl
signed_closed false = refl

-- the variable of an open literal is none of those in the list
open_apart : (lits : List Literal) (lit : Literal) → IsOpen lits lit → (l : Literal) → Contains lits l → l.var ≢ lit.var
open_apart lits lit (p, n) l h e =
    let P : Literal → Type 0 = λ x. Contains lits x in
    elim (same_or_negated l lit e) [ inl q ↦ p (subst P q h) | inr q ↦ n (subst P q h) ]

module _ (values : List Truth) (lits : List Literal) (lit : Literal) (tab : Tabulates values lits) (is_free : IsOpen lits lit) (within : lit.var < length values) where
  one_less : count_by is_open (set values lit.var (with_sign lit.positive True)) + 1 ≡ count_by is_open values
  one_less =
      let weight : Truth → ℕ = λ t. cond (is_open t) 1 0 in
      let s = sum_by-set weight values lit.var (with_sign lit.positive True) Open within in
      let was : weight (get_or values lit.var Open) ≡ 1 = ap weight (open_in_table values lits lit tab is_free) in
      let test : Bool → ℕ = λ b. cond b 1 0 in
      let now : weight (with_sign lit.positive True) ≡ 0 = ap test (signed_closed lit.positive) in
      omega arith

  pub push_within : length lits < length values
  push_within = let h = one_less in let k = tab.counted in omega arith

  known_there : (l : Literal) → l.var ≢ lit.var → (with_sign l.positive (get_or values l.var Open) ≡ True) ↔ Contains (lits ++ lit ∷ []) l
  known_there l ne =
      let f : Literal → ℕ = λ x. x.var in (
        λ h. Contains-append_left lits (lit ∷ []) l ((tab.known l).0 h),
        λ h. elim (Contains-push_cases lits lit l h) [ inl q ↦ (tab.known l).1 q | inr q ↦ absurd (ne (sym (ap f q))) ],
      )

  known_same : (with_sign lit.positive (get_or (set values lit.var (with_sign lit.positive True)) lit.var Open) ≡ True)
  known_same =
      let family : Truth → Type 0 = λ t. with_sign lit.positive t ≡ True in
      subst family (sym (get_or-set_same values lit.var (with_sign lit.positive True) Open within)) (signed_true lit.positive)

  not_negated : (with_sign (not lit.positive) (get_or (set values lit.var (with_sign lit.positive True)) lit.var Open) ≡ True) → ⊥
  not_negated h =
      let family : Truth → Type 0 = λ t. with_sign (not lit.positive) t ≡ True in
      signed_other lit.positive (subst family (get_or-set_same values lit.var (with_sign lit.positive True) Open within) h)

  negation_not_pushed : Contains (lits ++ lit ∷ []) (negation lit) → ⊥
  negation_not_pushed h = elim (Contains-push_cases lits lit (negation lit) h) [ inl q ↦ is_free.1 q | inr q ↦ negation_other lit q ]

  known_here : (l : Literal) → l.var ≡ lit.var → (truth_at (set values lit.var (with_sign lit.positive True)) l ≡ True) ↔ Contains (lits ++ lit ∷ []) l
  known_here l e =
      let family : Literal → Type 0 = λ x. (truth_at (set values lit.var (with_sign lit.positive True)) x ≡ True) ↔ Contains (lits ++ lit ∷ []) x in
      elim (same_or_negated l lit e) [
        | inl q ↦ subst family (sym q) (λ _. Contains-push lits lit, λ _. known_same)
        | inr q ↦ subst family (sym q) (λ h. absurd (not_negated h), λ h. absurd (negation_not_pushed h))
      ]

  known_after : (l : Literal) → (truth_at (set values lit.var (with_sign lit.positive True)) l ≡ True) ↔ Contains (lits ++ lit ∷ []) l
  known_after l =
      let family : Truth → Type 0 = λ t. (with_sign l.positive t ≡ True) ↔ Contains (lits ++ lit ∷ []) l in
      elim (cases_order l.var lit.var) [
        | inl e ↦ known_here l e
        | inr (inl lt) ↦ let ne : l.var ≢ lit.var = omega arith in subst family (sym (get_or-set_other values lit.var l.var (with_sign lit.positive True) Open ne)) (known_there l ne)
        | inr (inr gt) ↦ let ne : l.var ≢ lit.var = omega arith in subst family (sym (get_or-set_other values lit.var l.var (with_sign lit.positive True) Open ne)) (known_there l ne)
      ]

  pub Tabulates-push : Tabulates (set values lit.var (with_sign lit.positive True)) (lits ++ lit ∷ [])
  Tabulates-push = record {
    known = known_after;
    counted = let h = one_less in let k = tab.counted in simp (length-set, length-append) (omega arith);
    once = all_pairs_push (λ (a b : Literal). a.var ≢ b.var) lits lit tab.once (λ k d lt. open_apart lits lit is_free (get_or lits k d) (Contains-get_or lits k d lt));
  }

open_not_true : (b : Bool) → with_sign b Open ≡ True → ⊥
open_not_true true e = cc
open_not_true false e = cc

closed_value : (b : Bool) (t : Truth) → with_sign b t ≡ True → is_open t ≡ false
closed_value b Open e = absurd (open_not_true b e)
closed_value b True e = refl
closed_value b False e = refl

pub all_below : (values : List Truth) (lits : List Literal) → Tabulates values lits → IsBelow (length values) lits
all_below values lits tab l h =
    elim (cases_lt l.var (length values)) [
      | inl lt ↦ lt
      | inr ge ↦
          let family : Truth → Type 0 = λ t. with_sign l.positive t ≡ True in
          absurd (open_not_true l.positive (subst family (get_or_past values l.var Open ge) ((tab.known l).1 h)))
    ]

pub consistent : (values : List Truth) (lits : List Literal) → Tabulates values lits → IsConsistent lits
consistent values lits tab = once_consistent lits tab.once

module _ (values : List Truth) (lits : List Literal) (lit : Literal) (tab : Tabulates values (lits ++ lit ∷ [])) where
  last_true : with_sign lit.positive (get_or values lit.var Open) ≡ True
  last_true = (tab.known lit).1 (Contains-push lits lit)

  pub last_within : lit.var < length values
  last_within = all_below values (lits ++ lit ∷ []) tab lit (Contains-push lits lit)

  -- no other literal of the list has the last one's variable
  last_apart : (l : Literal) → Contains lits l → l.var ≢ lit.var
  last_apart l (k, lt, e) same =
      let end : length (lits ++ lit ∷ []) ≡ length lits + 1 = length-append lits (lit ∷ []) in
      let f : Literal → ℕ = λ x. x.var in
      let there : (get_or (lits ++ lit ∷ []) k l).var ≡ l.var = ap f (get_or-append lits (lit ∷ []) l k lt ∙ e) in
      let here : (get_or (lits ++ lit ∷ []) (length lits) l).var ≡ lit.var = ap f (get_or-append_right lits (lit ∷ []) (length lits) (length lits) l refl (omega arith) ∙ last_read l) in
      tab.once k (length lits) l lt (omega arith) (there ∙ same ∙ sym here)
    where
      last_read : (d : Literal) → get_or (lit ∷ []) (length lits - length lits) d ≡ lit
      last_read d = let n : length lits - length lits ≡ 0 = omega arith in rw n refl

  known_before : (l : Literal) → (truth_at (set values lit.var Open) l ≡ True) ↔ Contains lits l
  known_before l =
      let f : Literal → ℕ = λ x. x.var in
      let family : Truth → Type 0 = λ t. (with_sign l.positive t ≡ True) ↔ Contains lits l in
      let other : l.var ≢ lit.var → (truth_at (set values lit.var Open) l ≡ True) ↔ Contains lits l = λ ne.
      subst family (sym (get_or-set_other values lit.var l.var Open Open ne)) (
        (λ h. elim (Contains-push_cases lits lit l ((tab.known l).0 h)) [ inl q ↦ q | inr q ↦ absurd (ne (sym (ap f q))) ]),
        (λ h. (tab.known l).1 (Contains-append_left lits (lit ∷ []) l h)),
      )
      in
      elim (cases_order l.var lit.var) [
        | inl e ↦
            let at_var : ℕ → Type 0 = λ n. (with_sign l.positive (get_or (set values lit.var Open) n Open) ≡ True) ↔ Contains lits l in
            subst at_var (sym e) (subst family (sym (get_or-set_same values lit.var Open Open last_within)) (
              (λ h. absurd (open_not_true l.positive h)),
              (λ h. absurd (last_apart l h e)),
            ))
        | inr (inl lt) ↦ other (omega arith)
        | inr (inr gt) ↦ other (omega arith)
      ]

  pub Tabulates-pop : Tabulates (set values lit.var Open) lits
  Tabulates-pop = record {
    known = known_before;
    counted =
        let weight : Truth → ℕ = λ t. cond (is_open t) 1 0 in
        let s = sum_by-set weight values lit.var Open Open last_within in
        let test : Bool → ℕ = λ b. cond b 1 0 in
        let was : weight (get_or values lit.var Open) ≡ 0 = ap test (closed_value lit.positive (get_or values lit.var Open) last_true) in
        let k = tab.counted in
        let end : length (lits ++ lit ∷ []) ≡ length lits + 1 = length-append lits (lit ∷ []) in
        simp length-set (omega arith);
    once = λ i j d lt jl.
        let f : Literal → ℕ = λ x. x.var in
        let end : length (lits ++ lit ∷ []) ≡ length lits + 1 = length-append lits (lit ∷ []) in
        let h = tab.once i j d lt (omega arith) in
        λ e. h (ap f (get_or-append lits (lit ∷ []) d i (omega arith)) ∙ e ∙ sym (ap f (get_or-append lits (lit ∷ []) d j jl)));
  }

-- the table with more variables, all of them open
module _ (values : List Truth) (lits : List Literal) (more : ℕ) (tab : Tabulates values lits) where
  known_wider : (x : ℕ) → get_or (values ++ replicate more Open) x Open ≡ get_or values x Open
  known_wider x =
      elim (cases_lt x (length values)) [
        | inl lt ↦ get_or-append values (replicate more Open) Open x lt
        | inr ge ↦ get_or-append_right values (replicate more Open) (length values) x Open refl ge ∙ past (x - length values) ∙ sym (get_or_past values x Open ge)
      ]
    where
      past : (k : ℕ) → get_or (replicate more Open) k Open ≡ Open
      past k =
          elim (cases_lt k more) [
            | inl lt ↦ get_or-replicate more k Open Open lt
            | inr ge ↦ get_or_past (replicate more Open) k Open (let n : length (replicate more Open) ≡ more = length-replicate more Open in omega arith)
          ]

  pub Tabulates-wider : Tabulates (values ++ replicate more Open) lits
  Tabulates-wider = record {
    known = λ l.
        let family : Truth → Type 0 = λ t. (with_sign l.positive t ≡ True) ↔ Contains lits l in
        subst family (sym (known_wider l.var)) (tab.known l);
    counted =
        let weight : Truth → ℕ = λ t. cond (is_open t) 1 0 in
        let a = sum_by-append weight values (replicate more Open) in
        let b = sum_by-replicate weight more Open in
        let n : length (replicate more Open) ≡ more = length-replicate more Open in
        let m : length (values ++ replicate more Open) ≡ length values + length (replicate more Open) = length-append values (replicate more Open) in
        let k = tab.counted in
        omega arith;
    once = tab.once;
  }

-- a front of a list, after its last element went
pub popped : {X : Type 0} (all now new : List X) → now ≡ take (length now) all → new ≡ take (length now - 1) now → new ≡ take (length new) all
popped {X} all now new e f =
    let n : length new ≡ length now - 1 = ap (λ (x : List X). length x) f ∙ length-take-le (length now - 1) now (omega arith) in
    let a : new ≡ take (length now - 1) (take (length now) all) = f ∙ ap (λ (x : List X). take (length now - 1) x) e in
    let b : take (length now - 1) (take (length now) all) ≡ take (length now - 1) all = take-take (length now - 1) (length now) all (omega arith) in
    a ∙ b ∙ ap (λ (k : ℕ). take k all) (sym n)
