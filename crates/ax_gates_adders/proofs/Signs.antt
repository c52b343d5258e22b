-- Numbers in two's complement are ordered as the words with their top bits flipped.
use Rattle.std.proofs.Common.{◌≡◌, ℕ, suc, ◌+◌, ◌-◌, ◌^◌, ◌≤◌, ◌<◌, Bool, true, false, refl, ap, sym, ◌∙◌, arith, w32}
use Rattle.std.specs.Prelude.{nat_lt, int_lt}
use Rattle.std.specs.Int.{cast_signed}
use Rattle.std.proofs.lemmas.Int.{to_z_pos}
use Rattle.std.proofs.lemmas.Bool.{leb-true, leb-false, ltb-true, ltb-false, lt-ltb, le-ltb, ltb_from_iff}
use Rattle.std.proofs.Math.Facts.{to_z-neg}
use lib.IntN.{pos, negsuc}
use lib.Dec.{leb}

lt_by : (z t : Bool) (m k : ℕ) → nat_lt m k ≡ t → (z ≡ false → k ≤ m) → (k ≤ m → z ≡ false) → z ≡ t
lt_by true true m k e f g = refl
lt_by true false m k e f g = g (ltb-false m k e)
lt_by false true m k e f g = let lt : m < k = ltb-true m k e in let le : k ≤ m = f refl in absurd (omega arith)
lt_by false false m k e f g = refl

pub bool_lt : (z : Bool) (m k : ℕ) → (z ≡ false → k ≤ m) → (k ≤ m → z ≡ false) → z ≡ nat_lt m k
bool_lt z m k f g = lt_by z (nat_lt m k) m k refl f g

lt_same : (a b c d : ℕ) → (a < b → c < d) → (c < d → a < b) → nat_lt a b ≡ nat_lt c d
lt_same a b c d f g = ltb_from_iff ((λ e. f (ltb-true a b e)), (λ h. lt-ltb a b (g h)))

signed_low : (m : ℕ) → m < 2 ^ 31 → cast_signed w32 m ≡ pos m
signed_low m h = to_z_pos w32 m h

signed_high : (m : ℕ) → 2 ^ 31 ≤ m → m < 2 ^ 32 → cast_signed w32 m ≡ negsuc (2 ^ 32 - suc m)
signed_high m h l =
    let e : m ≡ 2 ^ 32 - suc (2 ^ 32 - suc m) = omega arith in
    ap (cast_signed w32) e ∙ to_z-neg w32 (2 ^ 32 - suc m) (omega arith)

abbrev pub Flip : ℕ → ℕ → Type 0
Flip m fm = (2 ^ 31 ≤ m → fm + 2 ^ 31 ≡ m) × (m < 2 ^ 31 → fm ≡ m + 2 ^ 31)

pub less_tie : (m n fm fn : ℕ) → m < 2 ^ 32 → n < 2 ^ 32 → Flip m fm → Flip n fn → int_lt (cast_signed w32 m) (cast_signed w32 n) ≡ nat_lt fm fn
less_tie m n fm fn p q a b = by (leb (2 ^ 31) m) (leb (2 ^ 31) n) refl refl
  where
    by : (x y : Bool) → leb (2 ^ 31) m ≡ x → leb (2 ^ 31) n ≡ y → int_lt (cast_signed w32 m) (cast_signed w32 n) ≡ nat_lt fm fn
    by true true e f =
        let g = leb-true (2 ^ 31) m e in
        let k = leb-true (2 ^ 31) n f in
        let u = a.0 g in
        let w = b.0 k in
        rw (signed_high m g p, signed_high n k q) (lt_same (2 ^ 32 - suc n) (2 ^ 32 - suc m) fm fn (λ h. omega arith) (λ h. omega arith))
    by true false e f =
        let g = leb-true (2 ^ 31) m e in
        let k = leb-false (2 ^ 31) n f in
        let u = a.0 g in
        let w = b.1 k in
        rw (signed_high m g p, signed_low n k) (sym (lt-ltb fm fn (omega arith)))
    by false true e f =
        let g = leb-false (2 ^ 31) m e in
        let k = leb-true (2 ^ 31) n f in
        let u = a.1 g in
        let w = b.0 k in
        rw (signed_low m g, signed_high n k q) (sym (le-ltb fm fn (omega arith)))
    by false false e f =
        let g = leb-false (2 ^ 31) m e in
        let k = leb-false (2 ^ 31) n f in
        let u = a.1 g in
        let w = b.1 k in
        rw (signed_low m g, signed_low n k) (lt_same m n fm fn (λ h. omega arith) (λ h. omega arith))
