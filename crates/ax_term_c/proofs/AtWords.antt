-- An operator's terms at two words have the value and the definedness of the operator.
use Rattle.std.proofs.Common.{◌≡◌, Bool, not, ◌&&◌, if◌then◌else◌, ℤ, pos, negsuc, ◌+ℤ◌, ◌-ℤ◌, ◌*ℤ◌, Option, Some, None, ap, sym, ◌∙◌, FitsSigned}
use Rattle.std.specs.Prelude.{int_lt}
use Rattle.std.specs.Int.{w32, int_wrap, int_shl}
use Rattle.std.specs.Ordering.{int_eq}
use Rattle.ax_base.specs.Arithmetic.{truth, is_nonzero, fits_int}
use Rattle.ax_prog.specs.declared.Un.{Un}
use Rattle.ax_prog.specs.declared.Un.TheVariants.{Neg, Not, BitNot}
use Rattle.ax_prog.specs.declared.Bin.{Bin}
use Rattle.ax_prog.specs.declared.Bin.TheVariants.{Eq, Ne, Lt, Le, Gt, Ge, And, Or, Add, Sub, Mul, Div, Rem, BitAnd, BitOr, BitXor, Shl, Shr}
use Rattle.ax_term.specs.Tree.{Tree, word}
use Rattle.ax_term.specs.Values.{Interpretation, op_value, word_under, flag_under, shift_count}
use Rattle.ax_term.specs.Folding.{make_word, make_test, make_no}
use Rattle.ax_term.specs.declared.WordOp.TheVariants as word_op
use Rattle.ax_term.specs.declared.TestOp.TheVariants as test_op
use Rattle.ax_term.proofs.ValueLemmas.{word_under_fits}
use Rattle.ax_term.proofs.FoldLemmas.{folded_values, word_under-make_word, flag_under-make_test, flag_under-make_no}
use Rattle.ax_term_c.specs.Operators.{unary_value, strict_value}
use Rattle.ax_term_c.specs.Terms.{equals, nonzero, number, inside, sum_fits, difference_fits, product_fits, can_divide, shift_keeps, quotient, remainder, unary_at, strict_at}
use Rattle.ax_term_c.specs.Meaning.{meaning}
use Rattle.ax_term_c.proofs.Compares.{int_eq-zero, int_eq-minus, not-int_lt, not_not}
use Rattle.ax_term_c.proofs.Sums.{gated, gated-wrap, plus_fits, minus_fits, negative-law}
use Rattle.ax_term_c.proofs.Products.{times_fits}
use Rattle.ax_term_c.proofs.Shifts.{counts, shift_kept, shift_left-law, shift_right-law, xor_ones-law}
use Rattle.ax_term_c.proofs.Divisions.{negated_if, magnitude_of, divides, quotient-law, remainder-law}
use Rattle.ax_term_c.proofs.FormValues.{wrap-0, wrap-31, wrap-32, wrap-minus_1, wrap-least, negative-value, equal-value, equals-value, nonzero_value, number_value, inside_value, negated_where-value, magnitude-value, not_both_apart-value}

module _ (i : Interpretation) (a b : Tree) where
  abbrev x : ℤ
  x = word_under i a

  abbrev y : ℤ
  y = word_under i b

  fx : FitsSigned w32 (word_under i a)
  fx = word_under_fits i a

  fy : FitsSigned w32 (word_under i b)
  fy = word_under_fits i b

  -- ---- definedness

  sum_fits-value : flag_under i (sum_fits a b (make_word word_op.Add a b)) ≡ fits_int (x +ℤ y)
  unfolding sum_fits
  sum_fits-value = rw (not_both_apart-value, word_under-make_word) (plus_fits x y fx fy)

  difference_fits-value : flag_under i (difference_fits a b (make_word word_op.Sub a b)) ≡ fits_int (x -ℤ y)
  unfolding difference_fits
  difference_fits-value = rw (not_both_apart-value, word_under-make_word) (minus_fits x y fx fy)

  product_fits-value : flag_under i (product_fits a b (make_word word_op.Mul a b)) ≡ fits_int (x *ℤ y)
  unfolding product_fits
  product_fits-value = simp (folded_values, wrap-31) (times_fits (x *ℤ y))

  can_divide-value : flag_under i (can_divide a b) ≡ divides x y
  unfolding can_divide
  can_divide-value = simp (folded_values, nonzero_value, equals-value, wrap-least, wrap-minus_1, int_eq-zero) (ap (λ (f : Bool). f && not (int_eq x (negsuc 2147483647) && int_eq y (negsuc 0))) (sym (not_not (is_nonzero y))))

  shift_keeps-value : flag_under i (shift_keeps a b (make_word word_op.Shl a b)) ≡ shift_kept x y (int_shl w32 x (shift_count y))
  unfolding shift_keeps
  shift_keeps-value = simp (folded_values, inside_value, negative-value, wrap-32)

  inside_32-value : flag_under i (inside b (word (pos 32))) ≡ counts y
  inside_32-value = simp (inside_value, wrap-32)

  -- ---- values

  quotient-value : word_under i (quotient a b) ≡ negated_if (int_lt (op_value word_op.Xor x y) (pos 0)) (op_value word_op.Quot (magnitude_of x) (magnitude_of y))
  unfolding quotient
  quotient-value = simp (negated_where-value, negative-value, magnitude-value, folded_values)

  remainder-value : word_under i (remainder a b) ≡ negated_if (int_lt x (pos 0)) (op_value word_op.Left (magnitude_of x) (magnitude_of y))
  unfolding remainder
  remainder-value = simp (negated_where-value, negative-value, magnitude-value, folded_values)

  -- ---- both

  flagged : (f : Bool) (v : ℤ) (t d : Tree) (o : Option ℤ) → flag_under i d ≡ f → word_under i t ≡ v → gated f v ≡ o → (if flag_under i d then Some (word_under i t) else None) ≡ o
  flagged f v t d o p q e = rw (p, q) e

  numbered : (f : Tree) (t : Bool) → flag_under i f ≡ t → Some (word_under i (number f)) ≡ Some (truth t)
  numbered f t e = ap Some (number_value i f ∙ ap truth e)

  pub strict-value : (op : Bin) → meaning i (strict_at op a b) ≡ strict_value op x y
  strict-value Eq = numbered (make_test test_op.Eq a b) (not (is_nonzero (x -ℤ y))) (equal-value i a b ∙ int_eq-minus x y)
  strict-value Ne = numbered (make_no (make_test test_op.Eq a b)) (is_nonzero (x -ℤ y)) (flag_under-make_no i (make_test test_op.Eq a b) ∙ (ap not (equal-value i a b ∙ int_eq-minus x y) ∙ not_not (is_nonzero (x -ℤ y))))
  strict-value Lt = numbered (make_test test_op.Lt a b) (int_lt x y) (flag_under-make_test i test_op.Lt a b)
  strict-value Le = numbered (make_no (make_test test_op.Lt b a)) _ (flag_under-make_no i (make_test test_op.Lt b a) ∙ (ap not (flag_under-make_test i test_op.Lt b a) ∙ not-int_lt x y))
  strict-value Gt = numbered (make_test test_op.Lt b a) (int_lt y x) (flag_under-make_test i test_op.Lt b a)
  strict-value Ge = numbered (make_no (make_test test_op.Lt a b)) _ (flag_under-make_no i (make_test test_op.Lt a b) ∙ (ap not (flag_under-make_test i test_op.Lt a b) ∙ not-int_lt y x))
  strict-value And = numbered (nonzero b) (is_nonzero y) (nonzero_value i b)
  strict-value Or = numbered (nonzero b) (is_nonzero y) (nonzero_value i b)
  strict-value Add = flagged (fits_int (x +ℤ y)) (int_wrap w32 (x +ℤ y)) (make_word word_op.Add a b) (sum_fits a b (make_word word_op.Add a b)) _ sum_fits-value (word_under-make_word i word_op.Add a b) (gated-wrap (x +ℤ y))
  strict-value Sub = flagged (fits_int (x -ℤ y)) (int_wrap w32 (x -ℤ y)) (make_word word_op.Sub a b) (difference_fits a b (make_word word_op.Sub a b)) _ difference_fits-value (word_under-make_word i word_op.Sub a b) (gated-wrap (x -ℤ y))
  strict-value Mul = flagged (fits_int (x *ℤ y)) (int_wrap w32 (x *ℤ y)) (make_word word_op.Mul a b) (product_fits a b (make_word word_op.Mul a b)) _ product_fits-value (word_under-make_word i word_op.Mul a b) (gated-wrap (x *ℤ y))
  strict-value Div = flagged (divides x y) _ (quotient a b) (can_divide a b) _ can_divide-value quotient-value (quotient-law x y fx fy)
  strict-value Rem = flagged (divides x y) _ (remainder a b) (can_divide a b) _ can_divide-value remainder-value (remainder-law x y fx fy)
  strict-value BitAnd = ap Some (word_under-make_word i word_op.And a b)
  strict-value BitOr = ap Some (word_under-make_word i word_op.Or a b)
  strict-value BitXor = ap Some (word_under-make_word i word_op.Xor a b)
  strict-value Shl = flagged _ _ (make_word word_op.Shl a b) (shift_keeps a b (make_word word_op.Shl a b)) _ shift_keeps-value (word_under-make_word i word_op.Shl a b) (shift_left-law x y)
  strict-value Shr = flagged _ _ (make_word word_op.Shr a b) (inside b (word (pos 32))) _ inside_32-value (word_under-make_word i word_op.Shr a b) (shift_right-law x y)

module _ (i : Interpretation) (a : Tree) where
  pub unary-value : (op : Un) → meaning i (unary_at op a) ≡ unary_value op (word_under i a)
  unary-value Neg = simp (folded_values, equals-value, wrap-0, wrap-least) (negative-law (word_under i a) (word_under_fits i a))
  unary-value Not = ap Some (number_value i (equals a (pos 0)) ∙ ap truth (equals-value i a (pos 0) ∙ (ap (int_eq (word_under i a)) wrap-0 ∙ int_eq-zero (word_under i a))))
  unary-value BitNot = ap Some (simp (folded_values, wrap-minus_1) (xor_ones-law (word_under i a) (word_under_fits i a)))
