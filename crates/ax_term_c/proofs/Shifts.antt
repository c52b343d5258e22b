-- A shift to the left keeps the value exactly where shifting back gives the operand.
use Rattle.std.proofs.Common.{◌≡◌, ℕ, suc, ◌*◌, ◌-◌, ◌/◌, ◌%◌, ◌^◌, ◌<◌, ◌≤◌, Bool, true, false, not, ◌&&◌, if◌then◌else◌, ℤ, pos, negsuc, Some, None, refl, ap, ◌∙◌, arith, FitsSigned, leb, ltb}
use Rattle.std.specs.Prelude.{int_lt, bit_xor}
use Rattle.std.specs.Int.{w32, cast_signed, int_shl, int_shr, int_bit_xor}
use Rattle.std.specs.Int.Bits.{xor_add_and}
use Rattle.std.specs.Ordering.{int_eq}
use Rattle.std.proofs.lemmas.Nat.{shl-shr, shr_split, and_mask}
use Rattle.std.proofs.lemmas.Bool.{leb-true, leb-false, le-ltb, ltb-true, ltb-false}
use Rattle.ax_base.specs.Arithmetic.{in_range, shifted, shift_left_of, shift_right_of, complement_of}
use Rattle.ax_term.specs.Values.{shift_count}
use Rattle.ax_term_c.proofs.Compares.{int_eq-is, int_eq-not}
use Rattle.ax_term_c.proofs.Sums.{gated}
use Rattle.ax_term_c.proofs.Products.{cast_signed-low, cast_signed-high}

-- ---- to the left

-- u is what is left of w, which is a shifted by k
module _ (a k w u : ℕ) (ew : w ≡ a * 2 ^ k) (eu : u ≡ w % 2 ^ 32) where
  back_low : u < 2 ^ 31 → gated (int_eq (int_shr (cast_signed w32 u) k) (pos a)) (cast_signed w32 u) ≡ in_range (pos w)
  back_low l = rw (cast_signed-low u l) (by (ltb w (2 ^ 31)) refl)
    where
      by : (x : Bool) → ltb w (2 ^ 31) ≡ x → gated (int_eq (pos (u / 2 ^ k)) (pos a)) (pos u) ≡ (if x then Some (pos w) else None)
      by true t =
          let h = ltb-true w (2 ^ 31) t in
          let e : u ≡ w = omega arith in
          let d : u / 2 ^ k ≡ a = rw (e, ew) (shl-shr a k) in
          rw (int_eq-is (pos (u / 2 ^ k)) (pos a) (ap pos d)) (ap (λ (n : ℕ). Some (pos n)) e)
      by false t =
          let h = ltb-false w (2 ^ 31) t in
          rw (int_eq-not (pos (u / 2 ^ k)) (pos a)
          (λ s. let same : u / 2 ^ k ≡ a = cc in let split = rw (same, ← ew) at (shr_split u k) in absurd (omega arith))) refl

  back_high : 2 ^ 31 ≤ u → gated (int_eq (int_shr (cast_signed w32 u) k) (pos a)) (cast_signed w32 u) ≡ in_range (pos w)
  back_high l = rw (cast_signed-high u l (omega arith), le-ltb w (2 ^ 31) (omega arith)) refl

  back : gated (int_eq (int_shr (cast_signed w32 u) k) (pos a)) (cast_signed w32 u) ≡ in_range (pos w)
  back = by (leb (2 ^ 31) u) refl
    where
      by : (x : Bool) → leb (2 ^ 31) u ≡ x → gated (int_eq (int_shr (cast_signed w32 u) k) (pos a)) (cast_signed w32 u) ≡ in_range (pos w)
      by true e = back_high (leb-true (2 ^ 31) u e)
      by false e = back_low (leb-false (2 ^ 31) u e)

-- whether a count is from 0 to 31
abbrev pub counts : ℤ → Bool
counts b = not (int_lt b (pos 0)) && int_lt b (pos 32)

-- where a shift to the left is defined, of its result s
abbrev pub shift_kept : ℤ → ℤ → ℤ → Bool
shift_kept a b s = counts b && (not (int_lt a (pos 0)) && int_eq (int_shr s (shift_count b)) a)

shift_by : (a n : ℕ) (x : Bool) → ltb n 32 ≡ x → gated (x && (true && int_eq (int_shr (int_shl w32 (pos a) (shift_count (pos n))) (shift_count (pos n))) (pos a))) (int_shl w32 (pos a) (shift_count (pos n))) ≡ (if x then in_range (pos (a * 2 ^ n)) else None)
shift_by a n true t =
    let h = ltb-true n 32 t in
    let e : n % 32 ≡ n = omega arith in
    rw e (back a n (a * 2 ^ n) ((a * 2 ^ n) % 2 ^ 32) refl refl)
shift_by a n false t = refl

pub shift_left-law : (a b : ℤ) → gated (shift_kept a b (int_shl w32 a (shift_count b))) (int_shl w32 a (shift_count b)) ≡ shift_left_of a b
shift_left-law (pos a) (pos n) = rw (le-ltb n 0 (omega arith), le-ltb a 0 (omega arith)) (shift_by a n (ltb n 32) refl)
shift_left-law (pos a) (negsuc n) = refl
shift_left-law (negsuc a) (pos n) = rw (le-ltb n 0 (omega arith)) (by (ltb n 32))
  where
    by : (x : Bool) → gated (x && false) (int_shl w32 (negsuc a) (shift_count (pos n))) ≡ None
    by true = refl
    by false = refl
shift_left-law (negsuc a) (negsuc n) = refl

-- ---- to the right

shr_is : (a : ℤ) (n k : ℕ) → n ≡ k → int_shr a n ≡ shifted a k
shr_is (pos a) n k e = ap (λ (i : ℕ). pos (a / 2 ^ i)) e
shr_is (negsuc a) n k e = ap (λ (i : ℕ). negsuc (a / 2 ^ i)) e

right_by : (a : ℤ) (n : ℕ) (x : Bool) → ltb n 32 ≡ x → gated x (int_shr a (shift_count (pos n))) ≡ (if x then Some (shifted a n) else None)
right_by a n true t = let h = ltb-true n 32 t in ap Some (shr_is a (n % 32) n (omega arith))
right_by a n false t = refl

pub shift_right-law : (a b : ℤ) → gated (counts b) (int_shr a (shift_count b)) ≡ shift_right_of a b
shift_right-law a (pos n) = rw (le-ltb n 0 (omega arith)) (right_by a n (ltb n 32) refl)
shift_right-law a (negsuc n) = refl

-- ---- the complement

xor_ones : (n : ℕ) → n < 2 ^ 32 → bit_xor n (2 ^ 32 - 1) ≡ 2 ^ 32 - 1 - n
xor_ones n h =
    let m = and_mask n 32 in let s = xor_add_and n (2 ^ 32 - 1) in
    let e : n % 2 ^ 32 ≡ n = omega arith in omega arith

pub xor_ones-law : (a : ℤ) → FitsSigned w32 a → int_bit_xor w32 a (negsuc 0) ≡ complement_of a
xor_ones-law (pos n) p =
    let e : bit_xor n (2 ^ 32 - 1) ≡ 2 ^ 32 - 1 - n = xor_ones n (omega (arith, p.sfits)) in
    let b : 2 ^ 32 - suc (2 ^ 32 - 1 - n) ≡ n = omega (arith, p.sfits) in
    ap (cast_signed w32) e ∙ (cast_signed-high (2 ^ 32 - 1 - n) (omega (arith, p.sfits)) (omega arith) ∙ ap negsuc b)
xor_ones-law (negsuc n) p =
    let e : bit_xor (2 ^ 32 - suc n) (2 ^ 32 - 1) ≡ 2 ^ 32 - 1 - (2 ^ 32 - suc n) = xor_ones (2 ^ 32 - suc n) (omega arith) in
    let b : 2 ^ 32 - 1 - (2 ^ 32 - suc n) ≡ n = omega (arith, p.sfits) in
    ap (cast_signed w32) (e ∙ b) ∙ cast_signed-low n (omega (arith, p.sfits))
