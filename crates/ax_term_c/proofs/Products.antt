-- A product is in range exactly where its upper half is the sign of its lower half.
use Rattle.std.proofs.Common.{◌≡◌, ℕ, suc, ◌-◌, ◌/◌, ◌%◌, ◌^◌, ◌<◌, ◌≤◌, Bool, true, false, ℤ, pos, negsuc, refl, ap, ◌∙◌, arith, leb, ltb}
use Rattle.std.specs.Int.{w32, cast_signed, int_wrap, int_shr}
use Rattle.std.specs.Ordering.{int_eq}
use Rattle.std.proofs.lemmas.Int.{to_z_pos}
use Rattle.std.proofs.Math.Facts.{to_z-neg}
use Rattle.std.proofs.lemmas.Bool.{leb-true, leb-false, le-ltb, ltb-true, ltb-false}
use Rattle.ax_base.specs.Arithmetic.{fits_int}
use Rattle.ax_term_c.proofs.Compares.{int_eq-is, int_eq-not}

pub cast_signed-low : (m : ℕ) → m < 2 ^ 31 → cast_signed w32 m ≡ pos m
cast_signed-low m h = to_z_pos w32 m h

pub cast_signed-high : (m : ℕ) → 2 ^ 31 ≤ m → m < 2 ^ 32 → cast_signed w32 m ≡ negsuc (2 ^ 32 - suc m)
cast_signed-high m h l =
    let e : m ≡ 2 ^ 32 - suc (2 ^ 32 - suc m) = omega arith in
    ap (cast_signed w32) e ∙ to_z-neg w32 (2 ^ 32 - suc m) (omega arith)

module _ (h n : ℕ) (e : h ≡ n / 2 ^ 32) where
  -- n / 2 ^ 32 and a remainder below 2 ^ 31
  pos_low : (u : ℕ) → u ≡ n % 2 ^ 32 → u < 2 ^ 31 → int_eq (pos h) (int_shr (pos u) 31) ≡ ltb n (2 ^ 31)
  pos_low u r l = by (ltb n (2 ^ 31)) refl
    where
      by : (x : Bool) → ltb n (2 ^ 31) ≡ x → int_eq (pos h) (int_shr (pos u) 31) ≡ x
      by true t = let k = ltb-true n (2 ^ 31) t in int_eq-is (pos h) (int_shr (pos u) 31) (ap pos (omega arith))
      by false t = let k = ltb-false n (2 ^ 31) t in int_eq-not (pos h) (int_shr (pos u) 31) (λ s. let same : h ≡ u / 2 ^ 31 = cc in absurd (omega arith))

  negsuc_low : (u : ℕ) → u ≡ n % 2 ^ 32 → u < 2 ^ 31 → int_eq (negsuc h) (int_shr (negsuc u) 31) ≡ ltb n (2 ^ 31)
  negsuc_low u r l = by (ltb n (2 ^ 31)) refl
    where
      by : (x : Bool) → ltb n (2 ^ 31) ≡ x → int_eq (negsuc h) (int_shr (negsuc u) 31) ≡ x
      by true t = let k = ltb-true n (2 ^ 31) t in int_eq-is (negsuc h) (int_shr (negsuc u) 31) (ap negsuc (omega arith))
      by false t = let k = ltb-false n (2 ^ 31) t in int_eq-not (negsuc h) (int_shr (negsuc u) 31) (λ s. let same : h ≡ u / 2 ^ 31 = cc in absurd (omega arith))

pos_law : (n : ℕ) → int_eq (int_shr (pos n) 32) (int_shr (cast_signed w32 (n % 2 ^ 32)) 31) ≡ fits_int (pos n)
pos_law n = by (leb (2 ^ 31) (n % 2 ^ 32)) refl
  where
    by : (x : Bool) → leb (2 ^ 31) (n % 2 ^ 32) ≡ x → int_eq (int_shr (pos n) 32) (int_shr (cast_signed w32 (n % 2 ^ 32)) 31) ≡ fits_int (pos n)
    by true e =
        let l = leb-true (2 ^ 31) (n % 2 ^ 32) e in
        rw (cast_signed-high (n % 2 ^ 32) l (omega arith), le-ltb n (2 ^ 31) (omega arith)) refl
    by false e =
        let l = leb-false (2 ^ 31) (n % 2 ^ 32) e in
        rw (cast_signed-low (n % 2 ^ 32) l) (pos_low (n / 2 ^ 32) n refl (n % 2 ^ 32) refl l)

negsuc_law : (n : ℕ) → int_eq (int_shr (negsuc n) 32) (int_shr (cast_signed w32 (2 ^ 32 - 1 - n % 2 ^ 32)) 31) ≡ fits_int (negsuc n)
negsuc_law n = by (leb (2 ^ 31) (2 ^ 32 - 1 - n % 2 ^ 32)) refl
  where
    by : (x : Bool) → leb (2 ^ 31) (2 ^ 32 - 1 - n % 2 ^ 32) ≡ x → int_eq (int_shr (negsuc n) 32) (int_shr (cast_signed w32 (2 ^ 32 - 1 - n % 2 ^ 32)) 31) ≡ fits_int (negsuc n)
    by true e =
        let l = leb-true (2 ^ 31) (2 ^ 32 - 1 - n % 2 ^ 32) e in
        let back : 2 ^ 32 - suc (2 ^ 32 - 1 - n % 2 ^ 32) ≡ n % 2 ^ 32 = omega arith in
        rw (cast_signed-high (2 ^ 32 - 1 - n % 2 ^ 32) l (omega arith), back) (negsuc_low (n / 2 ^ 32) n refl (n % 2 ^ 32) refl (omega arith))
    by false e =
        let l = leb-false (2 ^ 31) (2 ^ 32 - 1 - n % 2 ^ 32) e in
        rw (cast_signed-low (2 ^ 32 - 1 - n % 2 ^ 32) l, le-ltb n (2 ^ 31) (omega arith)) refl

pub times_fits : (z : ℤ) → int_eq (int_shr z 32) (int_shr (int_wrap w32 z) 31) ≡ fits_int z
unfolding int_wrap
times_fits (pos n) = pos_law n
times_fits (negsuc n) = negsuc_law n
