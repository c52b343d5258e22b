-- What an operator gives for its operands (C11 6.5.3.3 and 6.5.5 to 6.5.15).
use Rattle.std.specs.Prelude.{ℤ, pos, int_lt, int_le, ◌-ℤ◌, not, if◌then◌else◌, Ok, Err}
use Rattle.std.specs.Int.{w32, int_bit_and, int_bit_or, int_bit_xor}
use Rattle.ax_base.specs.Arithmetic.{plus_of, minus_of, times_of, negative_of, quotient_of, remainder_of, shift_left_of, shift_right_of, complement_of, truth, is_nonzero}
use Rattle.ax_prog.specs.declared.Un.{Un}
use Rattle.ax_prog.specs.declared.Un.TheVariants.{Neg, Not, BitNot}
use Rattle.ax_prog.specs.declared.Bin.{Bin}
use Rattle.ax_prog.specs.declared.Bin.TheVariants as bin
use Rattle.ax_meaning.specs.declared.Why.TheVariants.{Overflow, Division, Shift}
use Rattle.ax_meaning.specs.Answer.{Answer, with_value, value_or}

-- 6.5.3.3
abbrev pub unary_value : Un → ℤ → Answer ℤ
unary_value Neg a = value_or (negative_of a) Overflow
unary_value Not a = Ok (truth (not (is_nonzero a)))
unary_value BitNot a = Ok (complement_of a)

-- 6.5.5 to 6.5.12: the operators that need both operands. (`&&` and `||` stand here for the sake of totality.)
abbrev pub strict_value : Bin → ℤ → ℤ → Answer ℤ
strict_value bin.Eq a b = Ok (truth (not (is_nonzero (a -ℤ b))))
strict_value bin.Ne a b = Ok (truth (is_nonzero (a -ℤ b)))
strict_value bin.Lt a b = Ok (truth (int_lt a b))
strict_value bin.Le a b = Ok (truth (int_le a b))
strict_value bin.Gt a b = Ok (truth (int_lt b a))
strict_value bin.Ge a b = Ok (truth (int_le b a))
strict_value bin.And a b = Ok (truth (is_nonzero b))
strict_value bin.Or a b = Ok (truth (is_nonzero b))
strict_value bin.Add a b = value_or (plus_of a b) Overflow
strict_value bin.Sub a b = value_or (minus_of a b) Overflow
strict_value bin.Mul a b = value_or (times_of a b) Overflow
strict_value bin.Div a b = value_or (quotient_of a b) Division
strict_value bin.Rem a b = value_or (remainder_of a b) Division
strict_value bin.BitAnd a b = Ok (int_bit_and w32 a b)
strict_value bin.BitOr a b = Ok (int_bit_or w32 a b)
strict_value bin.BitXor a b = Ok (int_bit_xor w32 a b)
strict_value bin.Shl a b = value_or (shift_left_of a b) Shift
strict_value bin.Shr a b = value_or (shift_right_of a b) Shift

-- 1 for a number that isn't 0
abbrev pub truth_value : Answer ℤ → Answer ℤ
truth_value (Err why) = Err why
truth_value (Ok b) = Ok (truth (is_nonzero b))

-- after the left operand's value: 6.5.13p4 and 6.5.14p4, `&&` needs its right operand only after a true left one, and `||` only
-- after a false one
abbrev pub value_after : Bin → ℤ → Answer ℤ → Answer ℤ
value_after bin.And a b = if is_nonzero a then truth_value b else Ok (pos 0)
value_after bin.Or a b = if is_nonzero a then Ok (pos 1) else truth_value b
value_after op a b = with_value (strict_value op a) b

abbrev pub binary_value : Bin → Answer ℤ → Answer ℤ → Answer ℤ
binary_value op (Err why) b = Err why
binary_value op (Ok a) b = value_after op a b

-- 6.5.15p4: only one of the second and third operands is needed
abbrev pub choice_value : Answer ℤ → Answer ℤ → Answer ℤ → Answer ℤ
choice_value (Err why) a b = Err why
choice_value (Ok f) a b = if is_nonzero f then a else b
