-- Folding keeps the value.
use Rattle.std.proofs.Common.{◌≡◌, ℕ, Bool, true, false, not, ◌&&◌, ◌||◌, if◌then◌else◌, nat_eq, ℤ, pos, ◌+ℤ◌, ◌-ℤ◌, Option, Some, None, refl, ap, sym, ◌∙◌, arith, FitsSigned}
use Rattle.std.specs.Int.{int_wrap, w32}
use Rattle.std.proofs.lemmas.Int.{ints, int_wrap_fits}
use Rattle.std.proofs.lemmas.Bool.{false≢true, and_parts}
use Rattle.ax_term.specs.Tree.{Tree, word, word_sym, flag, flag_sym, make, compare, no, all, pick}
use Rattle.ax_term.specs.Values.{Interpretation, op_value, test_value, word_under, flag_under}
use Rattle.ax_term.specs.Folding.{constant_of, truth_of, is_zero, same_op, same_test, same_truth, same_tree, drops_right_zero, drops_left_zero, word_by, at_same, test_by, all_by, pick_by, make_word, make_test, make_no, make_all, make_pick}
use Rattle.ax_term.specs.declared.WordOp.{WordOp}
use Rattle.ax_term.specs.declared.WordOp.TheVariants.{Add, Sub, Mul, High, Quot, Left, Shl, Shr, And, Or, Xor}
use Rattle.ax_term.specs.declared.TestOp.{TestOp}
use Rattle.ax_term.specs.declared.TestOp.TheVariants.{Eq, Lt}
use Rattle.ax_term.proofs.ValueLemmas.{op_value_fits, word_under_fits}

-- ---- same_tree is equality

same_op-exact : (o p : WordOp) → same_op o p ≡ true → o ≡ p
same_op-exact Add Add h = refl
same_op-exact Sub Sub h = refl
same_op-exact Mul Mul h = refl
same_op-exact High High h = refl
same_op-exact Quot Quot h = refl
same_op-exact Left Left h = refl
same_op-exact Shl Shl h = refl
same_op-exact Shr Shr h = refl
same_op-exact And And h = refl
same_op-exact Or Or h = refl
same_op-exact Xor Xor h = refl
same_op-exact o p h = absurd (false≢true h)

same_op-refl : (o : WordOp) → same_op o o ≡ true
same_op-refl Add = refl
same_op-refl Sub = refl
same_op-refl Mul = refl
same_op-refl High = refl
same_op-refl Quot = refl
same_op-refl Left = refl
same_op-refl Shl = refl
same_op-refl Shr = refl
same_op-refl And = refl
same_op-refl Or = refl
same_op-refl Xor = refl

same_test-exact : (o p : TestOp) → same_test o p ≡ true → o ≡ p
same_test-exact Eq Eq h = refl
same_test-exact Lt Lt h = refl
same_test-exact o p h = absurd (false≢true h)

same_test-refl : (o : TestOp) → same_test o o ≡ true
same_test-refl Eq = refl
same_test-refl Lt = refl

same_truth-exact : (x y : Bool) → same_truth x y ≡ true → x ≡ y
same_truth-exact true true h = refl
same_truth-exact true false h = sym h
same_truth-exact false true h = h
same_truth-exact false false h = refl

same_truth-refl : (x : Bool) → same_truth x x ≡ true
same_truth-refl true = refl
same_truth-refl false = refl

int_eq-exact : (x y : ℤ) → same_tree (word x) (word y) ≡ true → x ≡ y
int_eq-exact x y h = grind arith

int_eq-refl : (x : ℤ) → same_tree (word x) (word x) ≡ true
int_eq-refl x = grind arith

pub nat_eq-exact : (j k : ℕ) → nat_eq j k ≡ true → j ≡ k
nat_eq-exact j k h = grind arith

pub nat_eq-refl : (k : ℕ) → nat_eq k k ≡ true
nat_eq-refl k = grind arith

pub same_tree-exact : (a b : Tree) → same_tree a b ≡ true → a ≡ b
same_tree-exact (word x) (word y) h = ap word (int_eq-exact x y h)
same_tree-exact (word_sym j) (word_sym k) h = ap word_sym (nat_eq-exact j k h)
same_tree-exact (flag x) (flag y) h = ap flag (same_truth-exact x y h)
same_tree-exact (flag_sym j) (flag_sym k) h = ap flag_sym (nat_eq-exact j k h)
same_tree-exact (make o a b) (make p c d) h =
    let r = and_parts (same_op o p) (same_tree a c && same_tree b d) h in
    let s = and_parts (same_tree a c) (same_tree b d) r.1 in
    let e0 : o ≡ p = same_op-exact o p r.0 in let e1 : a ≡ c = same_tree-exact a c s.0 in let e2 : b ≡ d = same_tree-exact b d s.1 in cc
same_tree-exact (compare o a b) (compare p c d) h =
    let r = and_parts (same_test o p) (same_tree a c && same_tree b d) h in
    let s = and_parts (same_tree a c) (same_tree b d) r.1 in
    let e0 : o ≡ p = same_test-exact o p r.0 in let e1 : a ≡ c = same_tree-exact a c s.0 in let e2 : b ≡ d = same_tree-exact b d s.1 in cc
same_tree-exact (no f) (no g) h = ap no (same_tree-exact f g h)
same_tree-exact (all f g) (all h k) e =
    let s = and_parts (same_tree f h) (same_tree g k) e in
    let e1 : f ≡ h = same_tree-exact f h s.0 in let e2 : g ≡ k = same_tree-exact g k s.1 in cc
same_tree-exact (pick f a b) (pick g c d) h =
    let r = and_parts (same_tree f g) (same_tree a c && same_tree b d) h in
    let s = and_parts (same_tree a c) (same_tree b d) r.1 in
    let e0 : f ≡ g = same_tree-exact f g r.0 in let e1 : a ≡ c = same_tree-exact a c s.0 in let e2 : b ≡ d = same_tree-exact b d s.1 in cc
same_tree-exact a b h = absurd (false≢true h)

pub same_tree-refl : (a : Tree) → same_tree a a ≡ true
same_tree-refl (word x) = int_eq-refl x
same_tree-refl (word_sym k) = nat_eq-refl k
same_tree-refl (flag x) = same_truth-refl x
same_tree-refl (flag_sym k) = nat_eq-refl k
same_tree-refl (make o a b) = rw (same_op-refl o, same_tree-refl a, same_tree-refl b) refl
same_tree-refl (compare o a b) = rw (same_test-refl o, same_tree-refl a, same_tree-refl b) refl
same_tree-refl (no f) = same_tree-refl f
same_tree-refl (all f g) = rw (same_tree-refl f, same_tree-refl g) refl
same_tree-refl (pick f a b) = rw (same_tree-refl f, same_tree-refl a, same_tree-refl b) refl

-- ---- words

-- a constant has its value under each interpretation
pub word_under-constant : (i : Interpretation) (t : Tree) (x : ℤ) → constant_of t ≡ Some x → word_under i t ≡ x
word_under-constant i (word z) x h = cc
word_under-constant i t x h = cc

pub flag_under-truth : (i : Interpretation) (t : Tree) (b : Bool) → truth_of t ≡ Some b → flag_under i t ≡ b
flag_under-truth i (flag c) b h = cc
flag_under-truth i t b h = cc

zero_is : (x : ℤ) → is_zero x ≡ true → x ≡ pos 0
zero_is x h = grind arith

add_zero_left : (x z : ℤ) → x ≡ pos 0 → z ≡ x +ℤ z
add_zero_left x z h = omega (arith, ints)

add_zero_right : (x z : ℤ) → x ≡ pos 0 → z ≡ z +ℤ x
add_zero_right x z h = omega (arith, ints)

sub_zero_right : (x z : ℤ) → x ≡ pos 0 → z ≡ z -ℤ x
sub_zero_right x z h = omega (arith, ints)

right_zero : (op : WordOp) (z y : ℤ) → FitsSigned w32 z → (drops_right_zero op && is_zero y) ≡ true → z ≡ op_value op z y
right_zero Add z y f h = sym (int_wrap_fits w32 z f) ∙ ap (int_wrap w32) (add_zero_right y z (zero_is y h))
right_zero Sub z y f h = sym (int_wrap_fits w32 z f) ∙ ap (int_wrap w32) (sub_zero_right y z (zero_is y h))
right_zero op z y f h = absurd (false≢true h)

left_zero : (op : WordOp) (x z : ℤ) → FitsSigned w32 z → (drops_left_zero op && is_zero x) ≡ true → z ≡ op_value op x z
left_zero Add x z f h = sym (int_wrap_fits w32 z f) ∙ ap (int_wrap w32) (add_zero_left x z (zero_is x h))
left_zero op x z f h = absurd (false≢true h)

if_word : (i : Interpretation) (c : Bool) (a b : Tree) (v : ℤ) → (c ≡ true → word_under i a ≡ v) → word_under i b ≡ v → word_under i (if c then a else b) ≡ v
if_word i true a b v h k = h refl
if_word i false a b v h k = k

if_flag : (i : Interpretation) (c : Bool) (f g : Tree) (v : Bool) → (c ≡ true → flag_under i f ≡ v) → (c ≡ false → flag_under i g ≡ v) → flag_under i (if c then f else g) ≡ v
if_flag i true f g v h k = h refl
if_flag i false f g v h k = k refl

word_by-kept : (i : Interpretation) (op : WordOp) (p q : Option ℤ) (a b : Tree) → constant_of a ≡ p → constant_of b ≡ q → word_under i (word_by op p q a b) ≡ op_value op (word_under i a) (word_under i b)
word_by-kept i op (Some x) (Some y) a b hp hq =
    rw (← word_under-constant i a x hp, ← word_under-constant i b y hq) (int_wrap_fits w32 _ (op_value_fits op _ _ (word_under_fits i a) (word_under_fits i b)))
word_by-kept i op (Some x) None a b hp hq =
    if_word i (drops_left_zero op && is_zero x) b (make op a b) (op_value op (word_under i a) (word_under i b))
    (λ e. rw (word_under-constant i a x hp) (left_zero op x (word_under i b) (word_under_fits i b) e)) refl
word_by-kept i op None (Some y) a b hp hq =
    if_word i (drops_right_zero op && is_zero y) a (make op a b) (op_value op (word_under i a) (word_under i b))
    (λ e. rw (word_under-constant i b y hq) (right_zero op (word_under i a) y (word_under_fits i a) e)) refl
word_by-kept i op None None a b hp hq = refl

pub word_under-make_word : (i : Interpretation) (op : WordOp) (a b : Tree) → word_under i (make_word op a b) ≡ op_value op (word_under i a) (word_under i b)
unfolding make_word
word_under-make_word i op a b = word_by-kept i op (constant_of a) (constant_of b) a b refl refl

-- ---- flags

at_same-value : (op : TestOp) (v : ℤ) → at_same op ≡ test_value op v v
at_same-value Eq v = grind arith
at_same-value Lt v = grind (arith, ints)

same_or_compare : (i : Interpretation) (op : TestOp) (a b : Tree) → flag_under i (if same_tree a b then flag (at_same op) else compare op a b) ≡ test_value op (word_under i a) (word_under i b)
same_or_compare i op a b =
    if_flag i (same_tree a b) (flag (at_same op)) (compare op a b) (test_value op (word_under i a) (word_under i b))
    (λ e. at_same-value op (word_under i a) ∙ ap (λ (t : Tree). test_value op (word_under i a) (word_under i t)) (same_tree-exact a b e)) (λ e. refl)

test_by-kept : (i : Interpretation) (op : TestOp) (p q : Option ℤ) (a b : Tree) → constant_of a ≡ p → constant_of b ≡ q → flag_under i (test_by op p q a b) ≡ test_value op (word_under i a) (word_under i b)
test_by-kept i op (Some x) (Some y) a b hp hq = rw (word_under-constant i a x hp, word_under-constant i b y hq) refl
test_by-kept i op (Some x) None a b hp hq = same_or_compare i op a b
test_by-kept i op None q a b hp hq = same_or_compare i op a b

pub flag_under-make_test : (i : Interpretation) (op : TestOp) (a b : Tree) → flag_under i (make_test op a b) ≡ test_value op (word_under i a) (word_under i b)
unfolding make_test
flag_under-make_test i op a b = test_by-kept i op (constant_of a) (constant_of b) a b refl refl

not-not : (b : Bool) → b ≡ not (not b)
not-not true = refl
not-not false = refl

pub flag_under-make_no : (i : Interpretation) (f : Tree) → flag_under i (make_no f) ≡ not (flag_under i f)
unfolding make_no
flag_under-make_no i (flag b) = refl
flag_under-make_no i (no f) = not-not (flag_under i f)
flag_under-make_no i f = refl

and-true : (x : Bool) → x ≡ (x && true)
and-true true = refl
and-true false = refl

and-false : (x : Bool) → false ≡ (x && false)
and-false true = refl
and-false false = refl

and-same : (x : Bool) → x ≡ (x && x)
and-same true = refl
and-same false = refl

and-not : (x : Bool) → false ≡ (x && not x)
and-not true = refl
and-not false = refl

not-and : (x : Bool) → false ≡ (not x && x)
not-and true = refl
not-and false = refl

opposed : (i : Interpretation) (f g : Tree) (p q : Bool) → same_tree g (no f) ≡ p → same_tree f (no g) ≡ q → (p || q) ≡ true → false ≡ (flag_under i f && flag_under i g)
opposed i f g true q hp hq e = rw (same_tree-exact g (no f) hp) (and-not (flag_under i f))
opposed i f g false true hp hq e = rw (same_tree-exact f (no g) hq) (not-and (flag_under i g))
opposed i f g false false hp hq e = absurd (false≢true e)

all_by-kept : (i : Interpretation) (p q : Option Bool) (f g : Tree) → truth_of f ≡ p → truth_of g ≡ q → flag_under i (all_by p q f g) ≡ (flag_under i f && flag_under i g)
all_by-kept i (Some true) q f g hp hq = rw (flag_under-truth i f true hp) refl
all_by-kept i (Some false) q f g hp hq = rw (flag_under-truth i f false hp) refl
all_by-kept i None (Some true) f g hp hq = rw (flag_under-truth i g true hq) (and-true (flag_under i f))
all_by-kept i None (Some false) f g hp hq = rw (flag_under-truth i g false hq) (and-false (flag_under i f))
all_by-kept i None None f g hp hq =
    let v = flag_under i f && flag_under i g in
    if_flag i (same_tree f g) f (if same_tree g (no f) || same_tree f (no g) then flag false else all f g) v
    (λ e. and-same (flag_under i f) ∙ ap (λ (t : Tree). flag_under i f && flag_under i t) (same_tree-exact f g e))
    (λ e. if_flag i (same_tree g (no f) || same_tree f (no g)) (flag false) (all f g) v
    (λ k. opposed i f g (same_tree g (no f)) (same_tree f (no g)) refl refl k) (λ k. refl))

pub flag_under-make_all : (i : Interpretation) (f g : Tree) → flag_under i (make_all f g) ≡ (flag_under i f && flag_under i g)
unfolding make_all
flag_under-make_all i f g = all_by-kept i (truth_of f) (truth_of g) f g refl refl

-- ---- choices

choice-same : (c : Bool) (x y : ℤ) → x ≡ y → x ≡ (if c then x else y)
choice-same true x y e = refl
choice-same false x y e = e

pick_by-kept : (i : Interpretation) (p : Option Bool) (f a b : Tree) → truth_of f ≡ p → word_under i (pick_by p f a b) ≡ (if flag_under i f then word_under i a else word_under i b)
pick_by-kept i (Some true) f a b hp = rw (flag_under-truth i f true hp) refl
pick_by-kept i (Some false) f a b hp = rw (flag_under-truth i f false hp) refl
pick_by-kept i None f a b hp =
    if_word i (same_tree a b) a (pick f a b) (if flag_under i f then word_under i a else word_under i b)
    (λ e. choice-same (flag_under i f) (word_under i a) (word_under i b) (ap (word_under i) (same_tree-exact a b e))) refl

pub word_under-make_pick : (i : Interpretation) (f a b : Tree) → word_under i (make_pick f a b) ≡ (if flag_under i f then word_under i a else word_under i b)
unfolding make_pick
word_under-make_pick i f a b = pick_by-kept i (truth_of f) f a b refl

-- what folded terms are worth
pub ruleset folded_values = (word_under-make_word, flag_under-make_test, flag_under-make_no, flag_under-make_all, word_under-make_pick)
