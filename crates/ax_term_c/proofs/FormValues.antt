-- The values of the short forms.
use Rattle.std.proofs.Common.{◌≡◌, Bool, true, false, not, ◌&&◌, ◌||◌, ℤ, pos, negsuc, refl, ap, ◌∙◌}
use Rattle.std.specs.Prelude.{int_lt}
use Rattle.std.specs.Int.{w32, int_wrap}
use Rattle.std.specs.Ordering.{int_eq}
use Rattle.ax_base.specs.Arithmetic.{truth, is_nonzero}
use Rattle.ax_term.specs.Tree.{Tree, word}
use Rattle.ax_term.specs.Values.{Interpretation, word_under, flag_under}
use Rattle.ax_term.specs.Folding.{make_word, make_test}
use Rattle.ax_term.specs.declared.WordOp.TheVariants as word_op
use Rattle.ax_term.specs.declared.TestOp.TheVariants as test_op
use Rattle.ax_term.proofs.ValueLemmas.{word_under_fits}
use Rattle.ax_term.proofs.FoldLemmas.{folded_values, word_under-make_word, flag_under-make_test, flag_under-make_no}
use Rattle.ax_term_c.specs.Terms.{negative, equals, nonzero, any, number, inside, negated_where, magnitude, not_both_apart}
use Rattle.ax_term_c.proofs.Signs.{apart, negative-and, negative-xor}
use Rattle.ax_term_c.proofs.Compares.{int_eq-zero, not_not}
use Rattle.ax_term_c.proofs.Divisions.{negated_if, magnitude_of}

-- ---- constants

pub wrap-0 : int_wrap w32 (pos 0) ≡ pos 0
unfolding int_wrap
wrap-0 = refl

pub wrap-1 : int_wrap w32 (pos 1) ≡ pos 1
unfolding int_wrap
wrap-1 = refl

pub wrap-31 : int_wrap w32 (pos 31) ≡ pos 31
unfolding int_wrap
wrap-31 = refl

pub wrap-32 : int_wrap w32 (pos 32) ≡ pos 32
unfolding int_wrap
wrap-32 = refl

pub wrap-minus_1 : int_wrap w32 (negsuc 0) ≡ negsuc 0
unfolding int_wrap
wrap-minus_1 = refl

pub wrap-least : int_wrap w32 (negsuc 2147483647) ≡ negsuc 2147483647
unfolding int_wrap
wrap-least = refl

-- ---- forms

one_of : (f g : Bool) → not (not f && not g) ≡ (f || g)
one_of true g = refl
one_of false g = not_not g

module _ (i : Interpretation) where
  pub negative-value : (a : Tree) → flag_under i (negative a) ≡ int_lt (word_under i a) (pos 0)
  unfolding negative
  negative-value a = flag_under-make_test i test_op.Lt a (word (pos 0)) ∙ ap (int_lt (word_under i a)) wrap-0

  pub equal-value : (a b : Tree) → flag_under i (make_test test_op.Eq a b) ≡ int_eq (word_under i a) (word_under i b)
  equal-value a b = flag_under-make_test i test_op.Eq a b

  pub equals-value : (a : Tree) (z : ℤ) → flag_under i (equals a z) ≡ int_eq (word_under i a) (int_wrap w32 z)
  unfolding equals
  equals-value a z = flag_under-make_test i test_op.Eq a (word z)

  pub nonzero_value : (a : Tree) → flag_under i (nonzero a) ≡ is_nonzero (word_under i a)
  unfolding nonzero
  nonzero_value a = simp (folded_values, equals-value, wrap-0, int_eq-zero) (not_not (is_nonzero (word_under i a)))

  pub any_value : (f g : Tree) → flag_under i (any f g) ≡ (flag_under i f || flag_under i g)
  unfolding any
  any_value f g = simp folded_values (one_of (flag_under i f) (flag_under i g))

  pub number_value : (f : Tree) → word_under i (number f) ≡ truth (flag_under i f)
  unfolding number
  number_value f = simp (folded_values, wrap-0, wrap-1)

  pub inside_value : (a n : Tree) → flag_under i (inside a n) ≡ (not (int_lt (word_under i a) (pos 0)) && int_lt (word_under i a) (word_under i n))
  unfolding inside
  inside_value a n = simp (folded_values, negative-value)

  pub negated_where-value : (f a : Tree) → word_under i (negated_where f a) ≡ negated_if (flag_under i f) (word_under i a)
  unfolding negated_where
  negated_where-value f a = simp (folded_values, wrap-0)

  pub magnitude-value : (a : Tree) → word_under i (magnitude a) ≡ magnitude_of (word_under i a)
  unfolding magnitude
  magnitude-value a = negated_where-value (negative a) a ∙ ap (λ (f : Bool). negated_if f (word_under i a)) (negative-value a)

  -- whether two words differ in their signs
  xor-sign : (p q : Tree) → int_lt (word_under i (make_word word_op.Xor p q)) (pos 0) ≡ apart (int_lt (word_under i p) (pos 0)) (int_lt (word_under i q) (pos 0))
  xor-sign p q = rw (word_under-make_word i word_op.Xor p q) (negative-xor (word_under i p) (word_under i q) (word_under_fits i p) (word_under_fits i q))

  and-sign : (p q : Tree) → int_lt (word_under i (make_word word_op.And p q)) (pos 0) ≡ (int_lt (word_under i p) (pos 0) && int_lt (word_under i q) (pos 0))
  and-sign p q = rw (word_under-make_word i word_op.And p q) (negative-and (word_under i p) (word_under i q) (word_under_fits i p) (word_under_fits i q))

  pub not_both_apart-value : (p q r s : Tree) → flag_under i (not_both_apart p q r s) ≡ not (apart (int_lt (word_under i p) (pos 0)) (int_lt (word_under i q) (pos 0)) && apart (int_lt (word_under i r) (pos 0)) (int_lt (word_under i s) (pos 0)))
  unfolding not_both_apart
  not_both_apart-value p q r s = rw (flag_under-make_no, negative-value, and-sign, xor-sign p q, xor-sign r s) refl
