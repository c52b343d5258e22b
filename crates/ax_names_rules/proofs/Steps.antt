-- Parts that are judged one behind the other.
use Rattle.std.proofs.Common.{◌≡◌, ◌≤◌, Bool, true, false, Ok, Err, refl, sym, ap, ◌∙◌, subst, arith, inl, inr, ◌⊎◌, if◌then◌else◌}
use Rattle.std.specs.Prelude.{nat_lt}
use Rattle.ax_names_types.specs.declared.TypeFault.{TypeFault}
use Rattle.ax_names_types.specs.Faults.{turn, Verdict}
use Rattle.ax_names_types.specs.Verdicts.{sooner, both}
use Rattle.ax_names_types.proofs.Broken.{Faulty}
use Rattle.ax_names_declared.specs.Firsts.{Exact}
use Rattle.ax_names_rules.specs.ValueWalk.{◌>>=◌}

-- a choice has what both of its sides have
pub choose : {A : Type 0} (P : A → Type 0) (b : Bool) (x y : A) → (b ≡ true → P x) → (b ≡ false → P y) → P (if b then x else y)
choose P true x y f g = f refl
choose P false x y f g = g refl

pub false_or_true : (b : Bool) → (b ≡ true → ⊥) → b ≡ false
false_or_true true h = absurd (h refl)
false_or_true false h = refl

pub bind_judged : {A B : Type 0} (J : Verdict A → Type 0) (P : Verdict B → Type 0) (k : A → Verdict B) (v : Verdict A) → J v → ((a : A) → J (Ok a) → P (k a)) → ((f : TypeFault) → J (Err f) → P (Err f)) → P (v >>= k)
bind_judged J P k (Ok a) d h e = h a d
bind_judged J P k (Err f) d h e = e f d

pub bind_is : {A B : Type 0} (k : A → Verdict B) (v : Verdict A) (a : A) (w : Verdict B) → v ≡ Ok a → k a ≡ w → (v >>= k) ≡ w
bind_is k v a w h p = ap (λ v. v >>= k) h ∙ p

pub bind_faulty : {A B : Type 0} (k : A → Verdict B) (v : Verdict A) (g : TypeFault) → Faulty v g → Faulty (v >>= k) g
bind_faulty k v g h = (h.0, ap (λ v. v >>= k) h.1, h.2)

pub bind_behind : {A B : Type 0} (k : A → Verdict B) (v : Verdict A) (a : A) (g : TypeFault) → v ≡ Ok a → Faulty (k a) g → Faulty (v >>= k) g
bind_behind k v a g h p = (p.0, ap (λ v. v >>= k) h ∙ p.1, p.2)

-- ---- two parts that are judged beside each other

one_of : (P : TypeFault → Type 0) (f g : TypeFault) → P f → P g → P (sooner f g)
one_of P f g p q = elim (nat_lt (turn g) (turn f)) as (λ b. P (if b then g else f)) [ true ↦ q | false ↦ p ]

sooner_left : (f g : TypeFault) → turn (sooner f g) ≤ turn f
sooner_left f g = grind arith

sooner_right : (f g : TypeFault) → turn (sooner f g) ≤ turn g
sooner_right f g = grind arith

pub both_judged : {A B C : Type 0} (J : Verdict A → Type 0) (K : Verdict B → Type 0) (P : Verdict C → Type 0) (k : A → B → Verdict C) (v : Verdict A) (w : Verdict B) → J v → K w → ((a : A) (b : B) → J (Ok a) → K (Ok b) → P (k a b)) → ((f : TypeFault) → J (Err f) → P (Err f)) → ((f : TypeFault) → K (Err f) → P (Err f)) → P (both k v w)
both_judged J K P k (Ok a) (Ok b) d e go left right = go a b d e
both_judged J K P k (Ok a) (Err f) d e go left right = right f e
both_judged J K P k (Err f) (Ok b) d e go left right = left f d
both_judged J K P k (Err f) (Err g) d e go left right = one_of (λ f. P (Err f)) f g (left f d) (right g e)

pub both_are : {A B C : Type 0} (k : A → B → Verdict C) (v : Verdict A) (w : Verdict B) (a : A) (b : B) (c : Verdict C) → v ≡ Ok a → w ≡ Ok b → k a b ≡ c → both k v w ≡ c
both_are k v w a b c h i j = rw (h, i) j

pub both_left : {A B C : Type 0} (k : A → B → Verdict C) (v : Verdict A) (w : Verdict B) (g : TypeFault) → Faulty v g → Faulty (both k v w) g
both_left k v (Ok y) g h = (h.0, rw h.1 refl, h.2)
both_left k v (Err f) g h = (sooner h.0 f, rw h.1 refl, let p = sooner_left h.0 f in omega (arith, p, h.2))

pub both_right : {A B C : Type 0} (k : A → B → Verdict C) (v : Verdict A) (w : Verdict B) (g : TypeFault) → Faulty w g → Faulty (both k v w) g
both_right k (Ok y) w g h = (h.0, rw h.1 refl, h.2)
both_right k (Err f) w g h = (sooner f h.0, rw h.1 refl, let p = sooner_right f h.0 in omega (arith, p, h.2))

-- a verdict that is another's
pub moved_to : {A : Type 0} (v w : Verdict A) (g : TypeFault) → v ≡ w → Faulty w g → Faulty v g
moved_to v w g h k = (k.0, h ∙ k.1, k.2)

pub fault_is : {A : Type 0} (v : Verdict A) (f : TypeFault) → v ≡ Err f → Faulty v f
fault_is v f h = (f, h, omega arith)

abbrev ok_or : {A : Type 0} → A → Verdict A → A
ok_or d (Ok a) = a
ok_or d (Err f) = d

pub ok_same : {A : Type 0} (a b : A) (v : Verdict A) → v ≡ Ok a → v ≡ Ok b → a ≡ b
ok_same a b v h k = ap (ok_or a) (sym h ∙ k)

abbrev err_or : {A : Type 0} → TypeFault → Verdict A → TypeFault
err_or d (Ok a) = d
err_or d (Err f) = f

pub err_same : {A : Type 0} (f g : TypeFault) (v : Verdict A) → v ≡ Err f → v ≡ Err g → f ≡ g
err_same f g v h k = ap (err_or f) (sym h ∙ k)

pub ok_is_err : {A B : Type 0} (v : Verdict A) (a : A) (f : TypeFault) → v ≡ Ok a → v ≡ Err f → B
ok_is_err v a f h k = cc

-- ---- from a verdict that is meant or a break, is found wherever something is meant, and comes no later than any break

pub exact_by : {A : Type 0} (J : Verdict A → Type 0) (P : A → Type 0) (B : TypeFault → Type 0) (v : Verdict A) → J v → ((a : A) → J (Ok a) → P a) → ((f : TypeFault) → J (Err f) → B f) → ((a : A) → P a → v ≡ Ok a) → ((g : TypeFault) → B g → Faulty v g) → Exact P B v
exact_by J P B (Ok a) d p b is faulty = (p a d, λ g c. let q = faulty g c in ok_is_err (Ok a) a q.0 refl q.1)
exact_by J P B (Err f) d p b is faulty =
    ((b f d, λ g c. let q = faulty g c in subst (λ (f : TypeFault). turn f ≤ turn g) (err_same q.0 f (Err f) q.1 refl) q.2), λ a m. ok_is_err (Err f) a f (is a m) refl)

pub either : {A : Type 0} (J : Verdict A → Type 0) (P : A → Type 0) (B : TypeFault → Type 0) (v : Verdict A) → J v → ((a : A) → J (Ok a) → P a) → ((f : TypeFault) → J (Err f) → B f) → ((a : A) × P a) ⊎ ((f : TypeFault) × B f)
either J P B (Ok a) d p b = inl (a, p a d)
either J P B (Err f) d p b = inr (f, b f d)

pub never : {A : Type 0} (v : Verdict A) (a : A) (f : TypeFault) → v ≡ Ok a → Faulty v f → ⊥
never v a f h q = ok_is_err v a q.0 h q.1

pub pair_same : {A B : Type 0} (a c : A) (b d : B) (v : Verdict (A × B)) → v ≡ Ok (a, b) → v ≡ Ok (c, d) → (a ≡ c) × (b ≡ d)
pair_same a c b d v h k = let q = ok_same (a, b) (c, d) v h k in (ap (λ r. r.0) q, ap (λ r. r.1) q)
