-- Division of magnitudes with the sign put back is division rounded toward zero.
use Rattle.std.proofs.Common.{◌≡◌, ℕ, zero, suc, ◌/◌, ◌%◌, ◌^◌, ◌<◌, ◌≤◌, Bool, true, false, not, ◌&&◌, if◌then◌else◌, ℤ, pos, negsuc, ◌-ℤ◌, neg_ℤ, Option, Some, None, refl, ap, sym, subst, ◌∙◌, arith, FitsSigned, ltb}
use Rattle.std.specs.Prelude.{int_lt, int_rem, unsigned_abs}
use Rattle.std.specs.Int.{w32, cast_signed, cast_unsigned, int_wrap, int_bit_xor}
use Rattle.std.specs.Ordering.{int_eq}
use Rattle.std.proofs.lemmas.Int.{ints, int_wrap_fits, of_z-to_z}
use Rattle.std.proofs.lemmas.Nat.{div_below, mod_below}
use Rattle.std.proofs.lemmas.Bool.{lt-ltb, le-ltb, ltb-true, ltb-false}
use Rattle.std.proofs.Math.Nat.{div-le_self}
use Rattle.ax_base.specs.Arithmetic.{in_range, quotient_of, remainder_of, if_defined, fits_int}
use Rattle.ax_term.specs.Values.{unsigned_quot, unsigned_left}
use Rattle.ax_term_c.proofs.Compares.{int_eq-is, int_eq-not}
use Rattle.ax_term_c.proofs.Signs.{apart, negative-xor}
use Rattle.ax_term_c.proofs.Sums.{gated, int_wrap-pos, zero_minus}
use Rattle.ax_term_c.proofs.Products.{cast_signed-low}

-- the value of `negated_where`
abbrev pub negated_if : Bool → ℤ → ℤ
negated_if f a = if f then int_wrap w32 (pos 0 -ℤ a) else a

-- ---- magnitudes

abbrev pub magnitude_of : ℤ → ℤ
magnitude_of a = negated_if (int_lt a (pos 0)) a

pub magnitude-abs : (a : ℤ) → FitsSigned w32 a → cast_unsigned w32 (magnitude_of a) ≡ unsigned_abs a
magnitude-abs (pos n) p = rw (le-ltb n 0 (omega arith)) refl
magnitude-abs (negsuc n) p =
    let e : pos 0 -ℤ negsuc n ≡ pos (suc n) = omega (arith, ints) in
    rw (e, int_wrap-pos (suc n) (omega (arith, p.sfits))) (of_z-to_z w32 (suc n) (omega (arith, p.sfits)))

-- ---- the sign put back

-- k negated, at 32 bits
negated-small : (k : ℕ) → k < 2 ^ 31 → FitsSigned w32 (neg_ℤ (pos k))
negated-small zero h = record { sfits = omega arith }
negated-small (suc k) h = record { sfits = omega arith }

negated-least : int_wrap w32 (pos 0 -ℤ cast_signed w32 (2 ^ 31)) ≡ neg_ℤ (pos (2 ^ 31))
unfolding int_wrap
negated-least = refl

pub negated-is : (k : ℕ) → k ≤ 2 ^ 31 → negated_if true (cast_signed w32 k) ≡ neg_ℤ (pos k)
negated-is k h = by (ltb k (2 ^ 31)) refl
  where
    by : (x : Bool) → ltb k (2 ^ 31) ≡ x → int_wrap w32 (pos 0 -ℤ cast_signed w32 k) ≡ neg_ℤ (pos k)
    by true t =
        let l = ltb-true k (2 ^ 31) t in
        rw (cast_signed-low k l, zero_minus (pos k)) (int_wrap_fits w32 (neg_ℤ (pos k)) (negated-small k l))
    by false t =
        let l = ltb-false k (2 ^ 31) t in let e : 2 ^ 31 ≡ k = omega arith in
        subst (λ (n : ℕ). int_wrap w32 (pos 0 -ℤ cast_signed w32 n) ≡ neg_ℤ (pos n)) e negated-least

fits_int-negated : (k : ℕ) → k ≤ 2 ^ 31 → fits_int (neg_ℤ (pos k)) ≡ true
fits_int-negated zero h = refl
fits_int-negated (suc k) h = lt-ltb k (2 ^ 31) (omega arith)

-- where the operands differ in their signs
opposed : (k : ℕ) (f : Bool) → k ≤ 2 ^ 31 → f ≡ true → gated f (negated_if true (cast_signed w32 k)) ≡ in_range (neg_ℤ (pos k))
opposed k f h e = rw (e, fits_int-negated k h) (ap Some (negated-is k h))

-- where they have one sign
agreed : (k : ℕ) (f : Bool) → f ≡ ltb k (2 ^ 31) → gated f (cast_signed w32 k) ≡ in_range (pos k)
agreed k f e = rw e (by (ltb k (2 ^ 31)) refl)
  where
    by : (x : Bool) → ltb k (2 ^ 31) ≡ x → gated x (cast_signed w32 k) ≡ (if x then Some (pos k) else None)
    by true t = ap Some (cast_signed-low k (ltb-true k (2 ^ 31) t))
    by false t = refl

-- ---- where division is defined

abbrev pub divides : ℤ → ℤ → Bool
divides a b = not (int_eq b (pos 0)) && not (int_eq a (negsuc 2147483647) && int_eq b (negsuc 0))

and-false : (x : Bool) → not (x && false) ≡ true
and-false true = refl
and-false false = refl

divides-by_pos : (a : ℤ) (n : ℕ) → divides a (pos (suc n)) ≡ true
divides-by_pos a n = rw (int_eq-not (pos (suc n)) (pos 0) (λ e. cc)) (and-false (int_eq a (negsuc 2147483647)))

-- the quotient of the least number is out of range by -1 alone
divides-negsuc : (m n : ℕ) → m < 2 ^ 31 → divides (negsuc m) (negsuc n) ≡ ltb (suc m / suc n) (2 ^ 31)
divides-negsuc m zero h = by (ltb (suc m) (2 ^ 31)) refl
  where
    by : (x : Bool) → ltb (suc m) (2 ^ 31) ≡ x → divides (negsuc m) (negsuc zero) ≡ ltb (suc m / 1) (2 ^ 31)
    by true t =
        let l = ltb-true (suc m) (2 ^ 31) t in
        rw (int_eq-not (negsuc m) (negsuc 2147483647) (λ e. let same : m ≡ 2147483647 = cc in absurd (omega arith)))
        (sym (lt-ltb (suc m / 1) (2 ^ 31) (omega arith)))
    by false t =
        let l = ltb-false (suc m) (2 ^ 31) t in let same : m ≡ 2147483647 = omega arith in
        rw (int_eq-is (negsuc m) (negsuc 2147483647) (ap negsuc same)) (sym (le-ltb (suc m / 1) (2 ^ 31) (omega arith)))
divides-negsuc m (suc n) h =
    let half = div_below (suc m) (suc (suc n)) (2 ^ 31) (omega arith) (omega arith) in
    rw (int_eq-not (negsuc (suc n)) (negsuc 0) (λ e. cc), and-false (int_eq (negsuc m) (negsuc 2147483647)))
    (sym (lt-ltb (suc m / suc (suc n)) (2 ^ 31) half))

-- ---- the laws

-- the quotient of the magnitudes, by the operands' signs
not_negative : (n : ℕ) → int_lt (pos n) (pos 0) ≡ false
not_negative n = le-ltb n 0 (omega arith)

by_signs : (a b : ℤ) (s : Bool) → s ≡ apart (int_lt a (pos 0)) (int_lt b (pos 0)) → FitsSigned w32 a → FitsSigned w32 b → gated (divides a b) (negated_if s (cast_signed w32 (unsigned_quot (unsigned_abs a) (unsigned_abs b)))) ≡ quotient_of a b
by_signs a (pos zero) s e p q = refl
by_signs (pos m) (pos (suc n)) s e p q =
    let l = div-le_self m (suc n) in let k : m / suc n < 2 ^ 31 = omega (arith, p.sfits) in
    let g : s ≡ false = e ∙ rw (not_negative m, not_negative (suc n)) refl in
    rw g (agreed (m / suc n) (divides (pos m) (pos (suc n))) (divides-by_pos (pos m) n ∙ sym (lt-ltb (m / suc n) (2 ^ 31) k)))
by_signs (negsuc m) (pos (suc n)) s e p q =
    let l = div-le_self (suc m) (suc n) in let k : suc m / suc n ≤ 2 ^ 31 = omega (arith, p.sfits) in
    let g : s ≡ true = e ∙ rw (not_negative (suc n)) refl in
    rw g (opposed (suc m / suc n) (divides (negsuc m) (pos (suc n))) k (divides-by_pos (negsuc m) n))
by_signs (pos m) (negsuc n) s e p q =
    let l = div-le_self m (suc n) in let k : m / suc n ≤ 2 ^ 31 = omega (arith, p.sfits) in
    let g : s ≡ true = e ∙ rw (not_negative m) refl in
    rw g (opposed (m / suc n) (divides (pos m) (negsuc n)) k refl)
by_signs (negsuc m) (negsuc n) s e p q =
    rw e (agreed (suc m / suc n) (divides (negsuc m) (negsuc n)) (divides-negsuc m n (omega (arith, p.sfits))))

pub quotient-law : (a b : ℤ) → FitsSigned w32 a → FitsSigned w32 b → gated (divides a b) (negated_if (int_lt (int_bit_xor w32 a b) (pos 0)) (cast_signed w32 (unsigned_quot (cast_unsigned w32 (magnitude_of a)) (cast_unsigned w32 (magnitude_of b))))) ≡ quotient_of a b
quotient-law a b p q = rw (negative-xor a b p q, magnitude-abs a p, magnitude-abs b q) (by_signs a b (apart (int_lt a (pos 0)) (int_lt b (pos 0))) refl p q)

-- what the quotient of the magnitudes leaves has the first operand's sign
rest : (a : ℤ) (d : ℕ) → suc d ≤ 2 ^ 31 → negated_if (int_lt a (pos 0)) (cast_signed w32 (unsigned_abs a % suc d)) ≡ int_rem a (pos (suc d))
rest (pos m) d h = rw (not_negative m) (cast_signed-low (m % suc d) (let l = mod_below m (suc d) (omega arith) in omega arith))
rest (negsuc m) d h = negated-is (suc m % suc d) (let l = mod_below (suc m) (suc d) (omega arith) in omega arith)

int_rem-abs : (a : ℤ) (n : ℕ) → int_rem a (pos (suc n)) ≡ int_rem a (negsuc n)
int_rem-abs (pos m) n = refl
int_rem-abs (negsuc m) n = refl

if_defined-gated : (f : Bool) (v r w : ℤ) (o : Option ℤ) → gated f v ≡ o → (f ≡ true → w ≡ r) → gated f w ≡ if_defined o r
if_defined-gated true v r w o e h = rw (← e) (ap Some (h refl))
if_defined-gated false v r w o e h = rw (← e) refl

remainder_word : (a b : ℤ) → FitsSigned w32 b → divides a b ≡ true → negated_if (int_lt a (pos 0)) (cast_signed w32 (unsigned_left (unsigned_abs a) (unsigned_abs b))) ≡ int_rem a b
remainder_word a (pos zero) q d = cc
remainder_word a (pos (suc n)) q d = rest a n (omega (arith, q.sfits))
remainder_word a (negsuc n) q d = rest a n (omega (arith, q.sfits)) ∙ int_rem-abs a n

pub remainder-law : (a b : ℤ) → FitsSigned w32 a → FitsSigned w32 b → gated (divides a b) (negated_if (int_lt a (pos 0)) (cast_signed w32 (unsigned_left (cast_unsigned w32 (magnitude_of a)) (cast_unsigned w32 (magnitude_of b))))) ≡ remainder_of a b
remainder-law a b p q =
    rw (magnitude-abs a p, magnitude-abs b q)
    (if_defined-gated (divides a b) (negated_if (apart (int_lt a (pos 0)) (int_lt b (pos 0))) (cast_signed w32 (unsigned_quot (unsigned_abs a) (unsigned_abs b)))) (int_rem a b)
    (negated_if (int_lt a (pos 0)) (cast_signed w32 (unsigned_left (unsigned_abs a) (unsigned_abs b)))) (quotient_of a b) (by_signs a b (apart (int_lt a (pos 0)) (int_lt b (pos 0))) refl p q) (λ d. remainder_word a b q d))
