-- Values of words are words: from -2147483648 to 2147483647.
use Rattle.std.proofs.Common.{◌≡◌, ℕ, zero, suc, ◌^◌, ◌<◌, ◌≤◌, Bool, true, false, if◌then◌else◌, ℤ, pos, negsuc, arith, rules, FitsSigned}
use Rattle.std.specs.Prelude.{unsigned_abs}
use Rattle.std.specs.Int.{int_wrap, w32, w64, cast_signed, cast_unsigned, int_shr}
use Rattle.std.proofs.lemmas.Int.{SFits-int_wrap, int_wrap_fits, fits_signed_mul}
use Rattle.std.proofs.lemmas.Nat.{div_below, and_le_l, or_lt, xor_lt, mod_below}
use Rattle.std.proofs.Math.Facts.{sfits_to_z}
use Rattle.ax_term.specs.Tree.{Tree, word, word_sym, flag, flag_sym, make, compare, no, all, pick}
use Rattle.ax_term.specs.Values.{Interpretation, op_value, word_under, flag_under, unsigned_quot, unsigned_left, shift_count}
use Rattle.ax_term.specs.declared.WordOp.{WordOp}
use Rattle.ax_term.specs.declared.WordOp.TheVariants.{Add, Sub, Mul, High, Quot, Left, Shl, Shr, And, Or, Xor}

pub int_wrap-int_wrap : (z : ℤ) → int_wrap w32 (int_wrap w32 z) ≡ int_wrap w32 z
int_wrap-int_wrap z = int_wrap_fits w32 (int_wrap w32 z) (SFits-int_wrap w32 z)

pub zero_fits : FitsSigned w32 (pos 0)
zero_fits = search rules

-- the bits of a word are below 2 ^ 32
pub cast_unsigned-lt : (z : ℤ) → FitsSigned w32 z → cast_unsigned w32 z < 2 ^ 32
cast_unsigned-lt (pos n) h = omega (arith, h.sfits)
cast_unsigned-lt (negsuc n) h = omega arith

-- 32 bits are a word
pub cast_signed_fits : (n : ℕ) → n < 2 ^ 32 → FitsSigned w32 (cast_signed w32 n)
cast_signed_fits n h = sfits_to_z {w = w32} {n = n} (search rules)

unsigned_quot-lt : (x y : ℕ) → x < 2 ^ 32 → unsigned_quot x y < 2 ^ 32
unsigned_quot-lt x zero h = omega arith
unsigned_quot-lt x (suc y) h = omega arith

unsigned_left-lt : (x y : ℕ) → x < 2 ^ 32 → unsigned_left x y < 2 ^ 32
unsigned_left-lt x zero h = h
unsigned_left-lt x (suc y) h = omega arith

abs_at_most : (z : ℤ) → FitsSigned w32 z → unsigned_abs z ≤ 2 ^ 31
abs_at_most (pos n) h = omega (arith, h.sfits)
abs_at_most (negsuc n) h = omega (arith, h.sfits)

shr_fits : (z : ℤ) → FitsSigned w64 z → FitsSigned w32 (int_shr z 32)
shr_fits (pos n) h = record { sfits = div_below n (2 ^ 32) (2 ^ 31) (omega arith) (omega (arith, h.sfits)) }
shr_fits (negsuc n) h = record { sfits = div_below n (2 ^ 32) (2 ^ 31) (omega arith) (omega (arith, h.sfits)) }

int_shr_fits : (z : ℤ) (k : ℕ) → FitsSigned w32 z → FitsSigned w32 (int_shr z k)
int_shr_fits (pos n) k h = record { sfits = omega (arith, h.sfits) }
int_shr_fits (negsuc n) k h = record { sfits = omega (arith, h.sfits) }

pub op_value_fits : (op : WordOp) (a b : ℤ) → FitsSigned w32 a → FitsSigned w32 b → FitsSigned w32 (op_value op a b)
op_value_fits Add a b p q = SFits-int_wrap w32 _
op_value_fits Sub a b p q = SFits-int_wrap w32 _
op_value_fits Mul a b p q = SFits-int_wrap w32 _
op_value_fits High a b p q = shr_fits _ (fits_signed_mul w64 a b (2 ^ 31) (2 ^ 31) (abs_at_most a p) (abs_at_most b q) (omega arith))
op_value_fits Quot a b p q = cast_signed_fits _ (unsigned_quot-lt _ (cast_unsigned w32 b) (cast_unsigned-lt a p))
op_value_fits Left a b p q = cast_signed_fits _ (unsigned_left-lt _ (cast_unsigned w32 b) (cast_unsigned-lt a p))
op_value_fits Shl a b p q = cast_signed_fits _ (mod_below _ (2 ^ 32) (omega arith))
op_value_fits Shr a b p q = int_shr_fits a (shift_count b) p
op_value_fits And a b p q = cast_signed_fits _ (let h = and_le_l (cast_unsigned w32 a) (cast_unsigned w32 b) in let k = cast_unsigned-lt a p in omega arith)
op_value_fits Or a b p q = cast_signed_fits _ (or_lt 32 _ _ (cast_unsigned-lt a p) (cast_unsigned-lt b q))
op_value_fits Xor a b p q = cast_signed_fits _ (xor_lt 32 _ _ (cast_unsigned-lt a p) (cast_unsigned-lt b q))

choice_fits : (c : Bool) (x y : ℤ) → FitsSigned w32 x → FitsSigned w32 y → FitsSigned w32 (if c then x else y)
choice_fits true x y p q = p
choice_fits false x y p q = q

pub word_under_fits : (i : Interpretation) (t : Tree) → FitsSigned w32 (word_under i t)
word_under_fits i (word z) = SFits-int_wrap w32 z
word_under_fits i (word_sym k) = SFits-int_wrap w32 (i.words k)
word_under_fits i (flag b) = zero_fits
word_under_fits i (flag_sym k) = zero_fits
word_under_fits i (make op a b) = op_value_fits op (word_under i a) (word_under i b) (word_under_fits i a) (word_under_fits i b)
word_under_fits i (compare op a b) = zero_fits
word_under_fits i (no f) = zero_fits
word_under_fits i (all f g) = zero_fits
word_under_fits i (pick f a b) = choice_fits (flag_under i f) (word_under i a) (word_under i b) (word_under_fits i a) (word_under_fits i b)
