-- A sum or a difference leaves the range exactly where its wrapped value's sign says so.
use Rattle.std.proofs.Common.{◌≡◌, ℕ, zero, suc, ◌+◌, ◌-◌, ◌%◌, ◌^◌, ◌<◌, Bool, true, false, not, ◌&&◌, if◌then◌else◌, ℤ, pos, negsuc, ◌+ℤ◌, ◌-ℤ◌, neg_ℤ, Option, Some, None, refl, ap, sym, ◌∙◌, arith, FitsSigned, leb, ltb}
use Rattle.std.specs.Prelude.{int_lt, ◌≤ℤ◌}
use Rattle.std.specs.Int.{w32, cast_signed, int_wrap}
use Rattle.std.proofs.lemmas.Int.{ints, int_wrap_fits}
use Rattle.std.proofs.lemmas.Bool.{leb-true, leb-false, lt-ltb, le-ltb, ltb-true, ltb-false}
use Rattle.ax_base.specs.Arithmetic.{fits_int, in_range, negative_of}
use Rattle.std.specs.Ordering.{int_eq}
use Rattle.ax_term_c.proofs.Compares.{int_eq-is, int_eq-not, leb-not-ltb, not_not}
use Rattle.ax_term_c.proofs.Signs.{apart, negative_signed}

-- ---- the range of int

pub fits_int-within : (z : ℤ) → negsuc 2147483647 ≤ℤ z → z ≤ℤ pos 2147483647 → fits_int z ≡ true
fits_int-within (pos n) l h = lt-ltb n (2 ^ 31) (omega (arith, ints))
fits_int-within (negsuc n) l h = lt-ltb n (2 ^ 31) (omega (arith, ints))

pub FitsSigned-int : (z : ℤ) → fits_int z ≡ true → FitsSigned w32 z
FitsSigned-int (pos n) h = record { sfits = ltb-true n (2 ^ 31) h }
FitsSigned-int (negsuc n) h = record { sfits = ltb-true n (2 ^ 31) h }

-- a value, or None where the flag is false
abbrev pub gated : Bool → ℤ → Option ℤ
gated f v = if f then Some v else None

-- where a number is in range, wrapping leaves it
pub gated-wrap : (z : ℤ) → gated (fits_int z) (int_wrap w32 z) ≡ in_range z
gated-wrap z = by (fits_int z) refl
  where
    by : (f : Bool) → fits_int z ≡ f → gated f (int_wrap w32 z) ≡ (if f then Some z else None)
    by true e = ap Some (int_wrap_fits w32 z (FitsSigned-int z e))
    by false e = refl

-- ---- the sign of a wrapped number

pub int_wrap-pos : (n : ℕ) → n < 2 ^ 32 → int_wrap w32 (pos n) ≡ cast_signed w32 n
unfolding int_wrap
int_wrap-pos n h = let e : n % 2 ^ 32 ≡ n = omega arith in ap (cast_signed w32) e

int_wrap-negsuc : (n : ℕ) → n < 2 ^ 32 → int_wrap w32 (negsuc n) ≡ cast_signed w32 (2 ^ 32 - 1 - n)
unfolding int_wrap
int_wrap-negsuc n h = let e : 2 ^ 32 - 1 - n % 2 ^ 32 ≡ 2 ^ 32 - 1 - n = omega arith in ap (cast_signed w32) e

leb-reflected : (n : ℕ) → n < 2 ^ 32 → leb (2 ^ 31) (2 ^ 32 - 1 - n) ≡ ltb n (2 ^ 31)
leb-reflected n h = by (leb (2 ^ 31) (2 ^ 32 - 1 - n)) refl
  where
    by : (x : Bool) → leb (2 ^ 31) (2 ^ 32 - 1 - n) ≡ x → x ≡ ltb n (2 ^ 31)
    by true e = let k = leb-true (2 ^ 31) (2 ^ 32 - 1 - n) e in sym (lt-ltb n (2 ^ 31) (omega arith))
    by false e = let k = leb-false (2 ^ 31) (2 ^ 32 - 1 - n) e in sym (le-ltb n (2 ^ 31) (omega arith))

abbrev pub wrapped_negative : ℤ → Bool
wrapped_negative z = int_lt (int_wrap w32 z) (pos 0)

pub wrapped_negative-pos : (n : ℕ) → n < 2 ^ 32 → wrapped_negative (pos n) ≡ not (fits_int (pos n))
wrapped_negative-pos n h = rw (int_wrap-pos n h) (negative_signed n h ∙ leb-not-ltb (2 ^ 31) n)

pub wrapped_negative-negsuc : (n : ℕ) → n < 2 ^ 32 → wrapped_negative (negsuc n) ≡ fits_int (negsuc n)
wrapped_negative-negsuc n h = rw (int_wrap-negsuc n h) (negative_signed (2 ^ 32 - 1 - n) (omega arith) ∙ leb-reflected n h)

-- ---- sums and differences

both_not : (f : Bool) → not (not f && not f) ≡ f
both_not true = refl
both_not false = refl

never_both : (s : Bool) → not (s && not s) ≡ true
never_both true = refl
never_both false = refl

never_both_turned : (s : Bool) → not (not s && s) ≡ true
never_both_turned true = refl
never_both_turned false = refl

pub plus_fits : (a b : ℤ) → FitsSigned w32 a → FitsSigned w32 b → not (apart (int_lt a (pos 0)) (wrapped_negative (a +ℤ b)) && apart (int_lt b (pos 0)) (wrapped_negative (a +ℤ b))) ≡ fits_int (a +ℤ b)
plus_fits (pos m) (pos n) p q =
    let s : m + n < 2 ^ 32 = omega (arith, p.sfits, q.sfits) in
    rw (le-ltb m 0 (omega arith), le-ltb n 0 (omega arith), wrapped_negative-pos (m + n) s) (both_not (fits_int (pos (m + n))))
plus_fits (pos m) (negsuc n) p q =
    rw (le-ltb m 0 (omega arith), never_both) (sym (fits_int-within (pos m +ℤ negsuc n) (omega (arith, ints, p.sfits, q.sfits)) (omega (arith, ints, p.sfits, q.sfits))))
plus_fits (negsuc m) (pos n) p q =
    rw (le-ltb n 0 (omega arith), never_both_turned) (sym (fits_int-within (negsuc m +ℤ pos n) (omega (arith, ints, p.sfits, q.sfits)) (omega (arith, ints, p.sfits, q.sfits))))
plus_fits (negsuc m) (negsuc n) p q =
    let s : suc (m + n) < 2 ^ 32 = omega (arith, p.sfits, q.sfits) in
    rw (wrapped_negative-negsuc (suc (m + n)) s) (both_not (fits_int (negsuc (suc (m + n)))))

pub minus_fits : (a b : ℤ) → FitsSigned w32 a → FitsSigned w32 b → not (apart (int_lt a (pos 0)) (int_lt b (pos 0)) && apart (int_lt a (pos 0)) (wrapped_negative (a -ℤ b))) ≡ fits_int (a -ℤ b)
minus_fits (pos m) (pos n) p q =
    rw (le-ltb m 0 (omega arith), le-ltb n 0 (omega arith)) (sym (fits_int-within (pos m -ℤ pos n) (omega (arith, ints, p.sfits, q.sfits)) (omega (arith, ints, p.sfits, q.sfits))))
minus_fits (pos m) (negsuc n) p q =
    let s : m + suc n < 2 ^ 32 = omega (arith, p.sfits, q.sfits) in
    rw (le-ltb m 0 (omega arith), wrapped_negative-pos (m + suc n) s) (not_not (fits_int (pos (m + suc n))))
minus_fits (negsuc m) (pos zero) p q =
    let e : negsuc m -ℤ pos 0 ≡ negsuc m = omega (arith, ints) in
    rw (e, wrapped_negative-negsuc m (omega (arith, p.sfits))) (not_not (fits_int (negsuc m)))
minus_fits (negsuc m) (pos (suc n)) p q =
    let s : suc (m + n) < 2 ^ 32 = omega (arith, p.sfits, q.sfits) in
    rw (le-ltb (suc n) 0 (omega arith), wrapped_negative-negsuc (suc (m + n)) s) (not_not (fits_int (negsuc (suc (m + n)))))
minus_fits (negsuc m) (negsuc n) p q =
    sym (fits_int-within (negsuc m -ℤ negsuc n) (omega (arith, ints, p.sfits, q.sfits)) (omega (arith, ints, p.sfits, q.sfits)))

-- only the least int has no negative
negative_fits : (a : ℤ) → FitsSigned w32 a → not (int_eq a (negsuc 2147483647)) ≡ fits_int (neg_ℤ a)
negative_fits (pos zero) p = refl
negative_fits (pos (suc n)) p = sym (lt-ltb n (2 ^ 31) (omega (arith, p.sfits)))
negative_fits (negsuc n) p = by (ltb (suc n) (2 ^ 31)) refl
  where
    by : (x : Bool) → ltb (suc n) (2 ^ 31) ≡ x → not (int_eq (negsuc n) (negsuc 2147483647)) ≡ x
    by true e = let h = ltb-true (suc n) (2 ^ 31) e in rw (int_eq-not (negsuc n) (negsuc 2147483647) (λ k. let same : n ≡ 2147483647 = cc in absurd (omega arith))) refl
    by false e = let h = ltb-false (suc n) (2 ^ 31) e in let same : n ≡ 2147483647 = omega (arith, p.sfits) in rw (int_eq-is (negsuc n) (negsuc 2147483647) (ap negsuc same)) refl

pub zero_minus : (a : ℤ) → pos 0 -ℤ a ≡ neg_ℤ a
zero_minus a = omega (arith, ints)

pub negative-law : (a : ℤ) → FitsSigned w32 a → gated (not (int_eq a (negsuc 2147483647))) (int_wrap w32 (pos 0 -ℤ a)) ≡ negative_of a
negative-law a p = rw (negative_fits a p, zero_minus a) (gated-wrap (neg_ℤ a))
