-- Reading a list of numbers from its front.
use Rattle.std.proofs.Common.{◌≡◌, ◌∙◌, ◌≤◌, ◌+◌, ◌-◌, ◌++◌, ℕ, ℤ, Bool, true, false, List, [], ◌∷◌, length, take, drop, Option, Some, None, option_map, sym, refl, ap, subst, arith, cond}
use Rattle.std.specs.Prelude.{slice_index_or, IfSome, nat_lt, unwrap_or}
use Rattle.std.proofs.lemmas.List.{append_assoc, take_all}
use Rattle.serde_json.specs.View.{view, items_view}
use Rattle.serde_json.specs.declared.value.Value.{Value}
use Rattle.ax_suite.specs.Tests.{all_fit, and_then, fits, int_from, integer_of, integers_of}

-- the rest of a list, as a pattern has it
pub rest-is : {X : Type 0} (v : X) (vs : List X) → take (length (v ∷ vs) - 1) (drop 1 (v ∷ vs)) ≡ vs
rest-is v vs = take_all _ vs (omega arith)

joined : (o : Option (List ℤ)) (done : List ℤ) (z : ℤ) → option_map (λ zs. done ++ zs) (option_map (λ zs. z ∷ zs) o) ≡ option_map (λ zs. (done ++ z ∷ []) ++ zs) o
joined None done z = refl
joined (Some zs) done z = ap Some (sym (append_assoc done (z ∷ []) zs))

pub next : (all : Option (List ℤ)) (done : List ℤ) (v : Value) (rest : List Value) (z : ℤ) → 1 ≤ length rest
    → v ≡ slice_index_or rest 0 v → Some z ≡ integer_of (view v)
    → all ≡ option_map (λ zs. done ++ zs) (integers_of (items_view rest))
    → all ≡ option_map (λ zs. (done ++ z ∷ []) ++ zs) (integers_of (items_view (take (length rest - 1) (drop 1 rest))))
next all done v [] z some at_v is so_far = absurd (omega arith)
next all done v (w ∷ ws) z some at_v is so_far =
    let first : integer_of (view w) ≡ Some z = sym (is ∙ ap (λ x. integer_of (view x)) at_v) in
    let opened : integers_of (items_view (w ∷ ws)) ≡ option_map (λ zs. z ∷ zs) (integers_of (items_view ws)) = ap (λ o. and_then o (integers_of (items_view ws))) first in
    so_far ∙ ap (option_map (λ zs. done ++ zs)) opened ∙ joined (integers_of (items_view ws)) done z
    ∙ ap (λ xs. option_map (λ zs. (done ++ z ∷ []) ++ zs) (integers_of (items_view xs))) (sym (rest-is w ws))

pub push-fits : (done : List ℤ) (z : ℤ) → all_fit done ≡ true → fits z ≡ true → all_fit (done ++ z ∷ []) ≡ true
push-fits [] z d f = rw f refl
push-fits (x ∷ xs) z d f =
    let here : fits x ≡ true = grind arith in
    let there : all_fit xs ≡ true = grind arith in
    rw (here, push-fits xs z there f) refl

pub int-is : (z y : ℤ) → Some y ≡ int_from z → (y ≡ z) × (fits z ≡ true)
int-is z y e = go (fits z) refl e
  where
    go : (t : Bool) → fits z ≡ t → Some y ≡ (cond t (Some z) None) → (y ≡ z) × (fits z ≡ true)
    go true t e = (ap (λ (o : Option ℤ). unwrap_or o y) e, t)
    go false t e = cc

misses : (done : List ℤ) (z : ℤ) (zs : List ℤ) → fits z ≡ false → all_fit (done ++ z ∷ zs) ≡ false
misses [] z zs f = rw f refl
misses (x ∷ xs) z zs f = rw (misses xs z zs f) (grind arith)

unfit : (z : ℤ) → None ≡ int_from z → fits z ≡ false
unfit z e = go (fits z) refl e
  where
    go : (t : Bool) → fits z ≡ t → None ≡ (cond t (Some z) None) → fits z ≡ false
    go true t e = cc
    go false t e = t

missed : (done : List ℤ) (z : ℤ) (o : Option (List ℤ)) → fits z ≡ false
    → IfSome (option_map (λ zs. done ++ zs) (option_map (λ zs. z ∷ zs) o)) (λ zs. all_fit zs ≡ false)
missed done z None f = tt
missed done z (Some zs) f = misses done z zs f

pub stops : (all : Option (List ℤ)) (done : List ℤ) (v : Value) (rest : List Value) (z : ℤ) → 1 ≤ length rest
    → v ≡ slice_index_or rest 0 v → Some z ≡ integer_of (view v) → None ≡ int_from z
    → all ≡ option_map (λ zs. done ++ zs) (integers_of (items_view rest))
    → IfSome all (λ zs. all_fit zs ≡ false)
stops all done v [] z some at_v is off so_far = absurd (omega arith)
stops all done v (w ∷ ws) z some at_v is off so_far =
    let first : integer_of (view w) ≡ Some z = sym (is ∙ ap (λ x. integer_of (view x)) at_v) in
    let opened : integers_of (items_view (w ∷ ws)) ≡ option_map (λ zs. z ∷ zs) (integers_of (items_view ws)) = ap (λ o. and_then o (integers_of (items_view ws))) first in
    let P : Option (List ℤ) → Type 0 = λ o. IfSome o (λ zs. all_fit zs ≡ false) in
    subst P (sym (so_far ∙ ap (option_map (λ zs. done ++ zs)) opened)) (missed done z (integers_of (items_view ws)) (unfit z off))

longer : (n : ℕ) (i : Option ℤ) (o : Option (List ℤ)) → IfSome o (λ zs. n ≡ length zs) → IfSome (and_then i o) (λ zs. n + 1 ≡ length zs)
longer n None o h = tt
longer n (Some z) None h = tt
longer n (Some z) (Some zs) h = omega arith

same-length : (vs : List Value) → IfSome (integers_of (items_view vs)) (λ zs. length vs ≡ length zs)
same-length [] = refl
same-length (v ∷ vs) =
    let e : length vs + 1 ≡ length (v ∷ vs) = omega arith in
    subst (λ n. IfSome (integers_of (items_view (v ∷ vs))) (λ zs. n ≡ length zs)) e (longer (length vs) (integer_of (view v)) (integers_of (items_view vs)) (same-length vs))

tested : (n : ℕ) (o : Option (List ℤ)) → IfSome o (λ zs. n ≡ length zs) → IfSome o (λ zs. nat_lt 4096 n ≡ nat_lt 4096 (length zs))
tested n None h = tt
tested n (Some zs) h = ap (λ k. nat_lt 4096 k) h

-- a list of numbers is as long as the list of values
pub long-values : (vs : List Value) → IfSome (integers_of (items_view vs)) (λ zs. nat_lt 4096 (length vs) ≡ nat_lt 4096 (length zs))
long-values vs = tested (length vs) (integers_of (items_view vs)) (same-length vs)
