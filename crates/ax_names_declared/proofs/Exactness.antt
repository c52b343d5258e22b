-- From a verdict that is meant or a break, is found wherever something is meant, and comes no later than any break, to an exact one.
use Rattle.std.proofs.Common.{◌≡◌, ◌≤◌, true, false, Result, Ok, Err, refl, sym, ap, ◌∙◌, subst, arith, if◌then◌else◌}
use Rattle.std.specs.Prelude.{nat_lt, IfOk}
use Rattle.ax_names_types.specs.declared.TypeFault.{TypeFault}
use Rattle.ax_names_types.specs.Faults.{turn, Verdict}
use Rattle.ax_names_types.specs.Verdicts.{sooner, both}
use Rattle.ax_names_declared.specs.Firsts.{Exact}

abbrev pub Judged : {A : Type 0} → (A → Type 0) → (TypeFault → Type 0) → Verdict A → Type 0
Judged P B (Ok a) = P a
Judged P B (Err f) = B f

-- the verdict is a fault that comes no later than this one
abbrev pub Faulty : {A : Type 0} → Verdict A → TypeFault → Type 0
Faulty v g = (f : TypeFault) × (v ≡ Err f) × (turn f ≤ turn g)

pub one_of : (B : TypeFault → Type 0) (f g : TypeFault) → B f → B g → B (sooner f g)
one_of B f g p q = elim (nat_lt (turn g) (turn f)) as (λ b. B (if b then g else f)) [ true ↦ q | false ↦ p ]

pub sooner_left : (f g : TypeFault) → turn (sooner f g) ≤ turn f
sooner_left f g = grind arith

pub sooner_right : (f g : TypeFault) → turn (sooner f g) ≤ turn g
sooner_right f g = grind arith

pub sooner_assoc : (f g h : TypeFault) → sooner (sooner f g) h ≡ sooner f (sooner g h)
sooner_assoc f g h = grind arith

module _ {A : Type 0} where
  abbrev err_or : TypeFault → Verdict A → TypeFault
  err_or d (Ok a) = d
  err_or d (Err f) = f

  err_same : (v : Verdict A) (f g : TypeFault) → v ≡ Err f → v ≡ Err g → f ≡ g
  err_same v f g h k = ap (err_or f) (sym h ∙ k)

  abbrev ok_or : A → Verdict A → A
  ok_or d (Ok a) = a
  ok_or d (Err f) = d

  -- what is meant is one, where the verdict is found wherever something is meant
  pub one_from : (v : Verdict A) (a b : A) → v ≡ Ok a → v ≡ Ok b → a ≡ b
  one_from v a b h k = ap (ok_or a) (sym h ∙ k)

  pub ok_is_err : {C : Type 0} (v : Verdict A) (a : A) (f : TypeFault) → v ≡ Ok a → v ≡ Err f → C
  ok_is_err v a f h k = cc

  pub exact_from : (P : A → Type 0) (B : TypeFault → Type 0) (v : Verdict A) → Judged P B v → ((a : A) → P a → v ≡ Ok a) → ((g : TypeFault) → B g → Faulty v g) → Exact P B v
  exact_from P B (Ok a) d is faulty = (d, λ g b. let p = faulty g b in ok_is_err (Ok a) a p.0 refl p.1)
  exact_from P B (Err f) d is faulty =
      ((d, λ g b. let p = faulty g b in subst (λ f. turn f ≤ turn g) (err_same (Err f) p.0 f p.1 refl) p.2), λ a m. ok_is_err (Err f) a f (is a m) refl)

  pub exact_if : {E : Type 0} (P : A → Type 0) (B : TypeFault → Type 0) (w : Verdict A) (r : Result (Verdict A) E) → Exact P B w → IfOk r (λ v. v ≡ w) → IfOk r (λ v. Exact P B v)
  exact_if P B w (Ok v) d h = subst (λ v. Exact P B v) (sym h) d
  exact_if P B w (Err e) d h = tt

  pub faulty_itself : (v : Verdict A) (f : TypeFault) → v ≡ Err f → Faulty v f
  faulty_itself v f h = (f, h, omega arith)

  pub if_is : {E : Type 0} (v w : Verdict A) (r : Result (Verdict A) E) → v ≡ w → IfOk r (λ u. u ≡ v) → IfOk r (λ u. u ≡ w)
  if_is v w (Ok u) h e = e ∙ h
  if_is v w (Err f) h e = tt

-- two parts
module _ {A B C : Type 0} (k : A → B → Verdict C) where
  pub both_judged : (P : A → Type 0) (Q : B → Type 0) (R : C → Type 0) (E F G : TypeFault → Type 0) (v : Verdict A) (w : Verdict B) → Judged P E v → Judged Q F w → ((a : A) (b : B) → P a → Q b → Judged R G (k a b)) → ((f : TypeFault) → E f → G f) → ((f : TypeFault) → F f → G f) → Judged R G (both k v w)
  both_judged P Q R E F G (Ok a) (Ok b) d e go left right = go a b d e
  both_judged P Q R E F G (Ok a) (Err f) d e go left right = right f e
  both_judged P Q R E F G (Err f) (Ok b) d e go left right = left f d
  both_judged P Q R E F G (Err f) (Err g) d e go left right = one_of G f g (left f d) (right g e)

  pub both_ok : (v : Verdict A) (w : Verdict B) (a : A) (b : B) → v ≡ Ok a → w ≡ Ok b → both k v w ≡ k a b
  both_ok v w a b e h = rw (e, h) refl

  left_at : (f g : TypeFault) (w : Verdict B) → turn f ≤ turn g → Faulty (both k (Err f) w) g
  left_at f g (Ok b) l = (f, refl, l)
  left_at f g (Err h) l = let m = sooner_left f h in (sooner f h, refl, omega arith)

  pub both_left : (v : Verdict A) (w : Verdict B) (g : TypeFault) → Faulty v g → Faulty (both k v w) g
  both_left v w g p = subst (λ v. Faulty (both k v w) g) (sym p.1) (left_at p.0 g w p.2)

  right_at : (v : Verdict A) (f g : TypeFault) → turn f ≤ turn g → Faulty (both k v (Err f)) g
  right_at (Ok a) f g l = (f, refl, l)
  right_at (Err h) f g l = let m = sooner_right h f in (sooner h f, refl, omega arith)

  pub both_right : (v : Verdict A) (w : Verdict B) (g : TypeFault) → Faulty w g → Faulty (both k v w) g
  both_right v w g p = subst (λ w. Faulty (both k v w) g) (sym p.1) (right_at v p.0 g p.2)
