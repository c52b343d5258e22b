-- Tests of numbers.
use Rattle.std.proofs.Common.{◌≡◌, ℕ, zero, suc, Bool, true, false, not, ℤ, pos, negsuc, ◌-ℤ◌, refl, sym, arith, leb, ltb}
use Rattle.std.specs.Prelude.{int_lt, int_le}
use Rattle.std.specs.Ordering.{int_eq}
use Rattle.std.specs.Bool.{Decides}
use Rattle.std.proofs.lemmas.Int.{ints}
use Rattle.std.proofs.lemmas.Bool.{leb-true, leb-false, lt-ltb, le-ltb, false_from_ne_true, false≢true}
use Rattle.std.proofs.lemmas.Bool.Decides.{Decides-int_eq, same_from_decides}
use Rattle.ax_base.specs.Arithmetic.{is_nonzero}

pub int_eq-is : (a b : ℤ) → a ≡ b → int_eq a b ≡ true
int_eq-is a b e = (Decides-int_eq a b).1 e

pub int_eq-not : (a b : ℤ) → (a ≡ b → ⊥) → int_eq a b ≡ false
int_eq-not a b h = false_from_ne_true (int_eq a b) (λ e. h ((Decides-int_eq a b).0 e))

pub leb-not-ltb : (m n : ℕ) → leb m n ≡ not (ltb n m)
leb-not-ltb m n = by (leb m n) refl
  where
    by : (x : Bool) → leb m n ≡ x → x ≡ not (ltb n m)
    by true e = let h = leb-true m n e in rw (le-ltb n m (omega arith)) refl
    by false e = let h = leb-false m n e in rw (lt-ltb n m (omega arith)) refl

-- not less the other way round
pub not-int_lt : (a b : ℤ) → not (int_lt b a) ≡ int_le a b
not-int_lt (pos m) (pos n) = sym (leb-not-ltb m n)
not-int_lt (pos m) (negsuc n) = refl
not-int_lt (negsuc m) (pos n) = refl
not-int_lt (negsuc m) (negsuc n) = sym (leb-not-ltb n m)

zero-Decides : (z : ℤ) → Decides (not (is_nonzero z)) (z ≡ pos 0)
zero-Decides (pos zero) = ((λ e. refl), (λ e. refl))
zero-Decides (pos (suc n)) = ((λ e. absurd (false≢true e)), (λ e. cc))
zero-Decides (negsuc n) = ((λ e. absurd (false≢true e)), (λ e. cc))

pub int_eq-zero : (a : ℤ) → int_eq a (pos 0) ≡ not (is_nonzero a)
int_eq-zero a = same_from_decides (int_eq a (pos 0)) (not (is_nonzero a)) (Decides-int_eq a (pos 0)) (zero-Decides a)

-- two numbers are equal where their difference is 0
pub int_eq-minus : (a b : ℤ) → int_eq a b ≡ not (is_nonzero (a -ℤ b))
int_eq-minus a b = same_from_decides {P = a ≡ b} (int_eq a b) (not (is_nonzero (a -ℤ b))) (Decides-int_eq a b)
    ((λ e. let h = (zero-Decides (a -ℤ b)).0 e in omega (arith, ints)), (λ e. (zero-Decides (a -ℤ b)).1 (omega (arith, ints))))

pub not_not : (f : Bool) → not (not f) ≡ f
not_not true = refl
not_not false = refl
