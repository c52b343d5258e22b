-- What terms mean: the value of each operator, and of a term at values of its symbols.
use Rattle.std.specs.Prelude.{ℕ, zero, suc, ◌-◌, ◌/◌, ◌%◌, ◌^◌, Bool, false, not, ◌&&◌, if◌then◌else◌, ℤ, pos, ◌+ℤ◌, ◌-ℤ◌, ◌*ℤ◌, int_lt}
use Rattle.std.specs.Int.{w32, cast_signed, cast_unsigned, int_wrap, int_bit_and, int_bit_or, int_bit_xor, int_shl, int_shr}
use Rattle.std.specs.Ordering.{int_eq}
use Rattle.ax_base.specs.Arithmetic.{truth}
use Rattle.ax_term.specs.Tree.{Tree, word, word_sym, flag, flag_sym, make, compare, no, all, pick, is_word}
use Rattle.ax_term.specs.declared.WordOp.{WordOp}
use Rattle.ax_term.specs.declared.WordOp.TheVariants.{Add, Sub, Mul, High, Quot, Left, Shl, Shr, And, Or, Xor}
use Rattle.ax_term.specs.declared.TestOp.{TestOp}
use Rattle.ax_term.specs.declared.TestOp.TheVariants.{Eq, Lt}

-- quotient and remainder of words without sign: by 0 they are all ones, and the dividend
abbrev pub unsigned_quot : ℕ → ℕ → ℕ
unsigned_quot x zero = 2 ^ 32 - 1
unsigned_quot x (suc y) = x / suc y

abbrev pub unsigned_left : ℕ → ℕ → ℕ
unsigned_left x zero = x
unsigned_left x (suc y) = x % suc y

-- a shift goes by the low five bits of its count
abbrev pub shift_count : ℤ → ℕ
shift_count b = cast_unsigned w32 b % 32

-- the value of a word operator at words from -2147483648 to 2147483647
abbrev pub op_value : WordOp → ℤ → ℤ → ℤ
op_value Add a b = int_wrap w32 (a +ℤ b)
op_value Sub a b = int_wrap w32 (a -ℤ b)
op_value Mul a b = int_wrap w32 (a *ℤ b)
op_value High a b = int_shr (a *ℤ b) 32
op_value Quot a b = cast_signed w32 (unsigned_quot (cast_unsigned w32 a) (cast_unsigned w32 b))
op_value Left a b = cast_signed w32 (unsigned_left (cast_unsigned w32 a) (cast_unsigned w32 b))
op_value Shl a b = int_shl w32 a (shift_count b)
op_value Shr a b = int_shr a (shift_count b)
op_value And a b = int_bit_and w32 a b
op_value Or a b = int_bit_or w32 a b
op_value Xor a b = int_bit_xor w32 a b

-- tests take their words with the sign
abbrev pub test_value : TestOp → ℤ → ℤ → Bool
test_value Eq a b = int_eq a b
test_value Lt a b = int_lt a b

-- a value for each symbol
pub record Interpretation : Type 0 where
  pub words : ℕ → ℤ
  pub flags : ℕ → Bool

abbrev mutual
  -- the value of a word, from -2147483648 to 2147483647
  pub word_under : Interpretation → Tree → ℤ
  word_under i (word z) = int_wrap w32 z
  word_under i (word_sym k) = int_wrap w32 (i.words k)
  word_under i (flag b) = pos 0
  word_under i (flag_sym k) = pos 0
  word_under i (make op a b) = op_value op (word_under i a) (word_under i b)
  word_under i (compare op a b) = pos 0
  word_under i (no f) = pos 0
  word_under i (all f g) = pos 0
  word_under i (pick f a b) = if flag_under i f then word_under i a else word_under i b

  -- the value of a flag
  pub flag_under : Interpretation → Tree → Bool
  flag_under i (word z) = false
  flag_under i (word_sym k) = false
  flag_under i (flag b) = b
  flag_under i (flag_sym k) = i.flags k
  flag_under i (make op a b) = false
  flag_under i (compare op a b) = test_value op (word_under i a) (word_under i b)
  flag_under i (no f) = not (flag_under i f)
  flag_under i (all f g) = flag_under i f && flag_under i g
  flag_under i (pick f a b) = false

-- the value of a term of either sort: a flag is 1 or 0
abbrev pub value_under : Interpretation → Tree → ℤ
value_under i t = if is_word t then word_under i t else truth (flag_under i t)
