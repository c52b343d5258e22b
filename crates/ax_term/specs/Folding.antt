-- The tree that a bank makes in place of an operator's: folded once, at making, by the first rule that fits.
use Rattle.std.specs.Prelude.{Bool, true, false, not, ◌&&◌, ◌||◌, nat_eq, if◌then◌else◌, ℤ, pos, Option, Some, None}
use Rattle.std.specs.Int.{w32, int_wrap}
use Rattle.std.specs.Ordering.{int_eq}
use Rattle.ax_term.specs.Tree.{Tree, word, word_sym, flag, flag_sym, make, compare, no, all, pick}
use Rattle.ax_term.specs.Values.{op_value, test_value}
use Rattle.ax_term.specs.declared.WordOp.{WordOp}
use Rattle.ax_term.specs.declared.WordOp.TheVariants.{Add, Sub, Mul, High, Quot, Left, Shl, Shr, And, Or, Xor}
use Rattle.ax_term.specs.declared.TestOp.{TestOp}
use Rattle.ax_term.specs.declared.TestOp.TheVariants.{Eq, Lt}

-- the value of a constant word, and of a constant flag
abbrev pub constant_of : Tree → Option ℤ
constant_of (word z) = Some (int_wrap w32 z)
constant_of t = None

abbrev pub truth_of : Tree → Option Bool
truth_of (flag b) = Some b
truth_of t = None

abbrev pub is_zero : ℤ → Bool
is_zero z = int_eq z (pos 0)

-- whether two trees are one
abbrev pub same_op : WordOp → WordOp → Bool
same_op Add Add = true
same_op Sub Sub = true
same_op Mul Mul = true
same_op High High = true
same_op Quot Quot = true
same_op Left Left = true
same_op Shl Shl = true
same_op Shr Shr = true
same_op And And = true
same_op Or Or = true
same_op Xor Xor = true
same_op o p = false

abbrev pub same_test : TestOp → TestOp → Bool
same_test Eq Eq = true
same_test Lt Lt = true
same_test o p = false

abbrev pub same_truth : Bool → Bool → Bool
same_truth true b = b
same_truth false b = not b

abbrev pub same_tree : Tree → Tree → Bool
same_tree (word x) (word y) = int_eq x y
same_tree (word_sym j) (word_sym k) = nat_eq j k
same_tree (flag x) (flag y) = same_truth x y
same_tree (flag_sym j) (flag_sym k) = nat_eq j k
same_tree (make o a b) (make p c d) = same_op o p && (same_tree a c && same_tree b d)
same_tree (compare o a b) (compare p c d) = same_test o p && (same_tree a c && same_tree b d)
same_tree (no f) (no g) = same_tree f g
same_tree (all f g) (all h k) = same_tree f h && same_tree g k
same_tree (pick f a b) (pick g c d) = same_tree f g && (same_tree a c && same_tree b d)
same_tree a b = false

-- Add(a,0) and Sub(a,0) are a, and Add(0,b) is b
abbrev pub drops_right_zero : WordOp → Bool
drops_right_zero Add = true
drops_right_zero Sub = true
drops_right_zero op = false

abbrev pub drops_left_zero : WordOp → Bool
drops_left_zero Add = true
drops_left_zero op = false

-- an operator at two words, by what of them is constant
abbrev pub word_by : WordOp → Option ℤ → Option ℤ → Tree → Tree → Tree
word_by op (Some x) (Some y) a b = word (op_value op x y)
word_by op (Some x) None a b = if drops_left_zero op && is_zero x then b else make op a b
word_by op None (Some y) a b = if drops_right_zero op && is_zero y then a else make op a b
word_by op None None a b = make op a b

unfoldable pub make_word : WordOp → Tree → Tree → Tree
make_word op a b = word_by op (constant_of a) (constant_of b) a b

-- Eq(a,a) is true, and Lt(a,a) false
abbrev pub at_same : TestOp → Bool
at_same Eq = true
at_same Lt = false

-- a test of two words
abbrev pub test_by : TestOp → Option ℤ → Option ℤ → Tree → Tree → Tree
test_by op (Some x) (Some y) a b = flag (test_value op x y)
test_by op (Some x) None a b = if same_tree a b then flag (at_same op) else compare op a b
test_by op None q a b = if same_tree a b then flag (at_same op) else compare op a b

unfoldable pub make_test : TestOp → Tree → Tree → Tree
make_test op a b = test_by op (constant_of a) (constant_of b) a b

-- the negation of a flag
unfoldable pub make_no : Tree → Tree
make_no (flag b) = flag (not b)
make_no (no f) = f
make_no f = no f

-- the conjunction of two flags: of f with itself f, and of f with its negation false
abbrev pub all_by : Option Bool → Option Bool → Tree → Tree → Tree
all_by (Some true) q f g = g
all_by (Some false) q f g = flag false
all_by None (Some true) f g = f
all_by None (Some false) f g = flag false
all_by None None f g =
    if same_tree f g then f
    else if same_tree g (no f) || same_tree f (no g) then flag false
    else all f g

unfoldable pub make_all : Tree → Tree → Tree
make_all f g = all_by (truth_of f) (truth_of g) f g

-- a choice between two words
abbrev pub pick_by : Option Bool → Tree → Tree → Tree → Tree
pick_by (Some true) f a b = a
pick_by (Some false) f a b = b
pick_by None f a b = if same_tree a b then a else pick f a b

unfoldable pub make_pick : Tree → Tree → Tree → Tree
make_pick f a b = pick_by (truth_of f) f a b
