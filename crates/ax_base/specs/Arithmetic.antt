-- C11 on `int` of 32 bits, over the whole numbers: `Some` of the value, or `None` where the result is undefined.
use Rattle.std.specs.Prelude.{ℕ, zero, suc, ◌*◌, ◌/◌, ◌^◌, Bool, true, false, nat_lt, if◌then◌else◌, ℤ, pos, negsuc, ◌+ℤ◌, ◌-ℤ◌, ◌*ℤ◌, neg_ℤ, int_div, int_rem, Option, Some, None}

-- whether a number is an `int`: from -2147483648 to 2147483647
abbrev pub fits_int : ℤ → Bool
fits_int (pos n) = nat_lt n (2 ^ 31)
fits_int (negsuc n) = nat_lt n (2 ^ 31)

-- 6.5p5: a result outside the range of its type is undefined
abbrev pub in_range : ℤ → Option ℤ
in_range z = if fits_int z then Some z else None

-- 6.5.6p5
abbrev pub plus_of : ℤ → ℤ → Option ℤ
plus_of a b = in_range (a +ℤ b)

-- 6.5.6p6
abbrev pub minus_of : ℤ → ℤ → Option ℤ
minus_of a b = in_range (a -ℤ b)

-- 6.5.5p4
abbrev pub times_of : ℤ → ℤ → Option ℤ
times_of a b = in_range (a *ℤ b)

-- 6.5.3.3p3
abbrev pub negative_of : ℤ → Option ℤ
negative_of a = in_range (neg_ℤ a)

-- 6.5.5p5 and p6: rounded toward zero, and undefined by 0
abbrev pub quotient_of : ℤ → ℤ → Option ℤ
quotient_of a (pos zero) = None
quotient_of a (pos (suc n)) = in_range (int_div a (pos (suc n)))
quotient_of a (negsuc n) = in_range (int_div a (negsuc n))

-- a number, undefined where another result is
abbrev pub if_defined : Option ℤ → ℤ → Option ℤ
if_defined None r = None
if_defined (Some q) r = Some r

-- 6.5.5p5 and p6: what the quotient leaves, and undefined where the quotient is
abbrev pub remainder_of : ℤ → ℤ → Option ℤ
remainder_of a b = if_defined (quotient_of a b) (int_rem a b)

-- 6.5.7p3 and p4: a * 2 ^ n, for an `a` that isn't negative and an `n` from 0 to 31
abbrev pub shift_left_of : ℤ → ℤ → Option ℤ
shift_left_of (pos a) (pos n) = if nat_lt n 32 then in_range (pos (a * 2 ^ n)) else None
shift_left_of (pos a) (negsuc n) = None
shift_left_of (negsuc a) n = None

-- a divided by 2 ^ n, rounded toward minus infinity
abbrev pub shifted : ℤ → ℕ → ℤ
shifted (pos a) n = pos (a / 2 ^ n)
shifted (negsuc a) n = negsuc (a / 2 ^ n)

-- 6.5.7p3 and p5, for an `n` from 0 to 31; of a negative `a` the arithmetic shift
abbrev pub shift_right_of : ℤ → ℤ → Option ℤ
shift_right_of a (pos n) = if nat_lt n 32 then Some (shifted a n) else None
shift_right_of a (negsuc n) = None

-- 6.5.8p6, 6.5.9p3, 6.5.13p3, 6.5.14p3: 1 for true and 0 for false
abbrev pub truth : Bool → ℤ
truth b = if b then pos 1 else pos 0

-- 6.5.13p3, 6.5.14p3, 6.5.15p4, 6.8.4.1p2: a number counts as true where it isn't 0
abbrev pub is_nonzero : ℤ → Bool
is_nonzero (pos zero) = false
is_nonzero (pos (suc n)) = true
is_nonzero (negsuc n) = true

-- 6.5.3.3p4 in two's complement: -a - 1
abbrev pub complement_of : ℤ → ℤ
complement_of (pos n) = negsuc n
complement_of (negsuc n) = pos n
