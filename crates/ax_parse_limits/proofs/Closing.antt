-- A closing brace.
use Rattle.std.proofs.Common.{◌≡◌, ℕ, ◌-◌, Bool, cond, List, [], ◌∷◌, ◌++◌, refl, sym, ap, ◌∙◌}
use Rattle.ax_parse_limits.specs.declared.nesting.Class.{Class}
use Rattle.ax_parse_limits.specs.declared.nesting.Class.TheVariants as c
use Rattle.ax_parse_limits.specs.declared.nesting.State.{State}
use Rattle.ax_parse_limits.specs.Nesting.{all_but_last, last_or_zero, closed, step}

all_but : (xs : List ℕ) (x : ℕ) → all_but_last (xs ++ x ∷ []) ≡ xs
all_but [] x = refl
all_but (y ∷ []) x = refl
all_but (y ∷ z ∷ xs) x = ap (λ (w : List ℕ). y ∷ w) (all_but (z ∷ xs) x)

last_is : (xs : List ℕ) (x : ℕ) → last_or_zero (xs ++ x ∷ []) ≡ x
last_is [] x = refl
last_is (y ∷ []) x = refl
last_is (y ∷ z ∷ xs) x = last_is (z ∷ xs) x

closed_is : (s : State) (stays : Bool) (xs : List ℕ) (x : ℕ) → closed s stays (xs ++ x ∷ []) ≡ record s { around = xs; total = s.total - x; here = cond stays x 0 }
closed_is s stays [] x = refl
closed_is s stays (y ∷ ys) x = rw (all_but (y ∷ ys) x) (rw (last_is (y ∷ ys) x) refl)

pub closing : (s : State) (class : Class) (value stays : Bool) (xs : List ℕ) (x here : ℕ) → class ≡ c.CloseCurly → s.around ≡ xs ++ x ∷ [] → here ≡ cond stays x 0 → record { around = xs; total = s.total - x; here = here; round = s.round; square = s.square; value = value } ≡ step s class value stays
closing s class value stays xs x here is split kept =
    let one : step s c.CloseCurly value stays ≡ record s { around = xs; total = s.total - x; here = cond stays x 0; value = value } = ap (λ (w : List ℕ). closed (record s { value = value }) stays w) split ∙ closed_is (record s { value = value }) stays xs x in
    let two : step s class value stays ≡ record s { around = xs; total = s.total - x; here = cond stays x 0; value = value } = ap (λ (j : Class). step s j value stays) is ∙ one in
    (λ i. let r : State = record s { around = xs; total = s.total - x; here = kept i; value = value } in r) ∙ sym two
