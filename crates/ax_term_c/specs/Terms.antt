-- C's operators as terms: the word of the value, and the flag of where it is defined.
use Rattle.std.specs.Prelude.{ℤ, pos, negsuc, true}
use Rattle.ax_term.specs.Tree.{Tree, word, flag}
use Rattle.ax_term.specs.Folding.{make_word, make_test, make_no, make_all, make_pick}
use Rattle.ax_term.specs.Numbered.{tree}
use Rattle.ax_term.specs.declared.WordOp.TheVariants as word_op
use Rattle.ax_term.specs.declared.TestOp.TheVariants as test_op
use Rattle.ax_prog.specs.declared.Un.{Un}
use Rattle.ax_prog.specs.declared.Un.TheVariants.{Neg, Not, BitNot}
use Rattle.ax_prog.specs.declared.Bin.{Bin}
use Rattle.ax_prog.specs.declared.Bin.TheVariants.{Eq, Ne, Lt, Le, Gt, Ge, And, Or, Add, Sub, Mul, Div, Rem, BitAnd, BitOr, BitXor, Shl, Shr}
use Rattle.ax_term_c.specs.declared.Known.{Known}

-- ---- short forms

-- a < 0
unfoldable pub negative : Tree → Tree
negative a = make_test test_op.Lt a (word (pos 0))

-- a is that number
unfoldable pub equals : Tree → ℤ → Tree
equals a z = make_test test_op.Eq a (word z)

-- a isn't 0
unfoldable pub nonzero : Tree → Tree
nonzero a = make_no (equals a (pos 0))

-- one of two flags holds
unfoldable pub any : Tree → Tree → Tree
any f g = make_no (make_all (make_no f) (make_no g))

-- 1 where the flag is true, and 0 elsewhere
unfoldable pub number : Tree → Tree
number f = make_pick f (word (pos 1)) (word (pos 0))

-- 0 <= i < n
unfoldable pub inside : Tree → Tree → Tree
inside i n = make_all (make_no (negative i)) (make_test test_op.Lt i n)

-- 0 - a where the flag is true, and a elsewhere
unfoldable pub negated_where : Tree → Tree → Tree
negated_where f a = make_pick f (make_word word_op.Sub (word (pos 0)) a) a

-- the absolute value
unfoldable pub magnitude : Tree → Tree
magnitude a = negated_where (negative a) a

-- not both: p and q differ in their signs, and r and s too
unfoldable pub not_both_apart : Tree → Tree → Tree → Tree → Tree
not_both_apart p q r s = make_no (negative (make_word word_op.And (make_word word_op.Xor p q) (make_word word_op.Xor r s)))

-- ---- where an operator at two numbers is defined; the last operand, where there is one more, is the value's term

-- a sum lost its sign where it has neither operand's
unfoldable pub sum_fits : Tree → Tree → Tree → Tree
sum_fits a b s = not_both_apart a s b s

-- a difference lost its sign where the operands differ in theirs and it has not the first one's
unfoldable pub difference_fits : Tree → Tree → Tree → Tree
difference_fits a b t = not_both_apart a b a t

-- the upper half of the product is its lower half's sign
unfoldable pub product_fits : Tree → Tree → Tree → Tree
product_fits a b p = make_test test_op.Eq (make_word word_op.High a b) (make_word word_op.Shr p (word (pos 31)))

-- b isn't 0, and not: a is the least number and b is -1
unfoldable pub can_divide : Tree → Tree → Tree
can_divide a b = make_all (nonzero b) (make_no (make_all (equals a (negsuc 2147483647)) (equals b (negsuc 0))))

-- the count is from 0 to 31, a isn't negative, and shifting back gives a
unfoldable pub shift_keeps : Tree → Tree → Tree → Tree
shift_keeps a b s =
    make_all (inside b (word (pos 32)))
    (make_all (make_no (negative a)) (make_test test_op.Eq (make_word word_op.Shr s b) a))

-- ---- values

-- of magnitudes, negated where the operands differ in their signs
unfoldable pub quotient : Tree → Tree → Tree
quotient a b = negated_where (negative (make_word word_op.Xor a b)) (make_word word_op.Quot (magnitude a) (magnitude b))

-- of magnitudes, negated where a is negative
unfoldable pub remainder : Tree → Tree → Tree
remainder a b = negated_where (negative a) (make_word word_op.Left (magnitude a) (magnitude b))

-- ---- operators

-- an int as terms: the word of its value, and the flag of where it is defined
pub record Trees : Type 0 where
  pub value : Tree
  pub defined : Tree

-- a value with the flag of where its operator is defined
abbrev pub with_flag : Tree → Tree → Trees
with_flag v d = record { value = v; defined = d }

abbrev pub always : Tree → Trees
always v = with_flag v (flag true)

-- an operator at the word of a number
abbrev pub unary_at : Un → Tree → Trees
unary_at Neg a = with_flag (make_word word_op.Sub (word (pos 0)) a) (make_no (equals a (negsuc 2147483647)))
unary_at Not a = always (number (equals a (pos 0)))
unary_at BitNot a = always (make_word word_op.Xor a (word (negsuc 0)))

-- an operator at the words of two numbers. (`&&` and `||` stand here for the sake of totality.)
abbrev pub strict_at : Bin → Tree → Tree → Trees
strict_at Eq a b = always (number (make_test test_op.Eq a b))
strict_at Ne a b = always (number (make_no (make_test test_op.Eq a b)))
strict_at Lt a b = always (number (make_test test_op.Lt a b))
strict_at Le a b = always (number (make_no (make_test test_op.Lt b a)))
strict_at Gt a b = always (number (make_test test_op.Lt b a))
strict_at Ge a b = always (number (make_no (make_test test_op.Lt a b)))
strict_at And a b = always (number (nonzero b))
strict_at Or a b = always (number (nonzero b))
strict_at Add a b = with_flag (make_word word_op.Add a b) (sum_fits a b (make_word word_op.Add a b))
strict_at Sub a b = with_flag (make_word word_op.Sub a b) (difference_fits a b (make_word word_op.Sub a b))
strict_at Mul a b = with_flag (make_word word_op.Mul a b) (product_fits a b (make_word word_op.Mul a b))
strict_at Div a b = with_flag (quotient a b) (can_divide a b)
strict_at Rem a b = with_flag (remainder a b) (can_divide a b)
strict_at BitAnd a b = always (make_word word_op.And a b)
strict_at BitOr a b = always (make_word word_op.Or a b)
strict_at BitXor a b = always (make_word word_op.Xor a b)
strict_at Shl a b = with_flag (make_word word_op.Shl a b) (shift_keeps a b (make_word word_op.Shl a b))
strict_at Shr a b = with_flag (make_word word_op.Shr a b) (inside b (word (pos 32)))

-- defined where the operand is and the operator at its value
unfoldable pub unary_trees : Un → Trees → Trees
unary_trees op a = with_flag (unary_at op a.value).value (make_all a.defined (unary_at op a.value).defined)

-- defined where both operands are and the operator at their values
unfoldable pub strict_trees : Bin → Trees → Trees → Trees
strict_trees op a b =
    with_flag (strict_at op a.value b.value).value
    (make_all (make_all a.defined b.defined) (strict_at op a.value b.value).defined)

-- `a && b` asks for b where a isn't 0
unfoldable pub and_trees : Trees → Trees → Trees
and_trees a b =
    with_flag (make_pick (nonzero a.value) (number (nonzero b.value)) (word (pos 0)))
    (make_all a.defined (any (make_no (nonzero a.value)) b.defined))

-- `a || b` asks for b where a is 0
unfoldable pub or_trees : Trees → Trees → Trees
or_trees a b =
    with_flag (make_pick (nonzero a.value) (word (pos 1)) (number (nonzero b.value)))
    (make_all a.defined (any (nonzero a.value) b.defined))

abbrev pub binary_trees : Bin → Trees → Trees → Trees
binary_trees And a b = and_trees a b
binary_trees Or a b = or_trees a b
binary_trees op a b = strict_trees op a b

-- `f ? a : b` asks for a where f isn't 0, and for b where it is
unfoldable pub choice_trees : Trees → Trees → Trees → Trees
choice_trees f a b =
    with_flag (make_pick (nonzero f.value) a.value b.value)
    (make_all f.defined (any (make_all (nonzero f.value) a.defined) (make_all (make_no (nonzero f.value)) b.defined)))

-- the trees of two terms
abbrev pub trees : Known → Trees
trees k = record { value = tree k.value; defined = tree k.defined }
