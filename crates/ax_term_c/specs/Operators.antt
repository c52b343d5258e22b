-- What C's operators give for operands that may be undefined (C11 6.5.3.3 and 6.5.5 to 6.5.15): `Some` of the value, or `None`
-- where the expression is undefined.
use Rattle.std.specs.Prelude.{ℤ, pos, int_lt, int_le, ◌-ℤ◌, not, if◌then◌else◌, Option, Some, None}
use Rattle.std.specs.Int.{w32, int_bit_and, int_bit_or, int_bit_xor}
use Rattle.std.specs.Option.{option_map, option_and_then}
use Rattle.ax_base.specs.Arithmetic.{plus_of, minus_of, times_of, negative_of, quotient_of, remainder_of, shift_left_of, shift_right_of, complement_of, truth, is_nonzero}
use Rattle.ax_prog.specs.declared.Un.{Un}
use Rattle.ax_prog.specs.declared.Un.TheVariants.{Neg, Not, BitNot}
use Rattle.ax_prog.specs.declared.Bin.{Bin}
use Rattle.ax_prog.specs.declared.Bin.TheVariants.{Eq, Ne, Lt, Le, Gt, Ge, And, Or, Add, Sub, Mul, Div, Rem, BitAnd, BitOr, BitXor, Shl, Shr}

-- 6.5.3.3: of a number
abbrev pub unary_value : Un → ℤ → Option ℤ
unary_value Neg a = negative_of a
unary_value Not a = Some (truth (not (is_nonzero a)))
unary_value BitNot a = Some (complement_of a)

-- 6.5.5 to 6.5.12: of two numbers. (`&&` and `||` stand here for the sake of totality.)
abbrev pub strict_value : Bin → ℤ → ℤ → Option ℤ
strict_value Eq a b = Some (truth (not (is_nonzero (a -ℤ b))))
strict_value Ne a b = Some (truth (is_nonzero (a -ℤ b)))
strict_value Lt a b = Some (truth (int_lt a b))
strict_value Le a b = Some (truth (int_le a b))
strict_value Gt a b = Some (truth (int_lt b a))
strict_value Ge a b = Some (truth (int_le b a))
strict_value And a b = Some (truth (is_nonzero b))
strict_value Or a b = Some (truth (is_nonzero b))
strict_value Add a b = plus_of a b
strict_value Sub a b = minus_of a b
strict_value Mul a b = times_of a b
strict_value Div a b = quotient_of a b
strict_value Rem a b = remainder_of a b
strict_value BitAnd a b = Some (int_bit_and w32 a b)
strict_value BitOr a b = Some (int_bit_or w32 a b)
strict_value BitXor a b = Some (int_bit_xor w32 a b)
strict_value Shl a b = shift_left_of a b
strict_value Shr a b = shift_right_of a b

-- 1 for a number that isn't 0
abbrev pub truth_value : Option ℤ → Option ℤ
truth_value b = option_map (λ n. truth (is_nonzero n)) b

-- after the left operand's value: 6.5.13p4 and 6.5.14p4, `&&` needs its right operand only after a true left one, and `||` only
-- after a false one
abbrev pub value_after : Bin → ℤ → Option ℤ → Option ℤ
value_after And a b = if is_nonzero a then truth_value b else Some (pos 0)
value_after Or a b = if is_nonzero a then Some (pos 1) else truth_value b
value_after op a b = option_and_then (strict_value op a) b

-- the value of a unary expression by its operand's
abbrev pub unary_of : Un → Option ℤ → Option ℤ
unary_of op a = option_and_then (unary_value op) a

-- the value of a binary expression by its operands'
abbrev pub binary_of : Bin → Option ℤ → Option ℤ → Option ℤ
binary_of op None b = None
binary_of op (Some a) b = value_after op a b

-- 6.5.15p4: the value of `f ? a : b`, where only one of the second and third operands is needed
abbrev pub choice_of : Option ℤ → Option ℤ → Option ℤ → Option ℤ
choice_of None a b = None
choice_of (Some f) a b = if is_nonzero f then a else b
