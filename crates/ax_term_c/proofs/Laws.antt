-- The terms of an operator mean what the operator gives for what its operands mean.
use Rattle.std.proofs.Common.{◌≡◌, Bool, true, false, not, ◌&&◌, ◌||◌, if◌then◌else◌, ℤ, pos, Option, Some, None, refl, ◌∙◌}
use Rattle.std.specs.Option.{option_and_then}
use Rattle.std.proofs.lemmas.Bool.{false≢true}
use Rattle.ax_base.specs.Arithmetic.{truth, is_nonzero}
use Rattle.ax_prog.specs.declared.Un.{Un}
use Rattle.ax_prog.specs.declared.Bin.{Bin}
use Rattle.ax_prog.specs.declared.Bin.TheVariants.{And, Or}
use Rattle.ax_term.specs.Values.{Interpretation, word_under, flag_under}
use Rattle.ax_term.proofs.FoldLemmas.{folded_values, flag_under-make_all}
use Rattle.ax_term_c.specs.Operators.{unary_value, strict_value, unary_of, binary_of, choice_of}
use Rattle.ax_term_c.specs.Terms.{Trees, unary_at, strict_at, unary_trees, strict_trees, and_trees, or_trees, binary_trees, choice_trees}
use Rattle.ax_term_c.specs.Meaning.{meaning}
use Rattle.ax_term_c.proofs.Sums.{gated}
use Rattle.ax_term_c.proofs.FormValues.{wrap-0, wrap-1, nonzero_value, any_value, number_value}
use Rattle.ax_term_c.proofs.AtWords.{unary-value, strict-value}

-- ---- unary operators

-- the operator after its operand: d says where the operator is defined at the operand's value
unary_gate : (p d : Bool) (x v : ℤ) (f : ℤ → Option ℤ) → gated d v ≡ f x → gated (p && d) v ≡ option_and_then f (gated p x)
unary_gate true d x v f e = e
unary_gate false d x v f e = refl

pub unary_law : (i : Interpretation) (op : Un) (a : Trees) → meaning i (unary_trees op a) ≡ unary_of op (meaning i a)
unfolding unary_trees
unary_law i op a =
    rw (flag_under-make_all i a.defined (unary_at op a.value).defined)
    (unary_gate (flag_under i a.defined) (flag_under i (unary_at op a.value).defined) (word_under i a.value) (word_under i (unary_at op a.value).value) (unary_value op) (unary-value i a.value op))

-- ---- operators that need both operands

abbrev strict_of : Bin → Option ℤ → Option ℤ → Option ℤ
strict_of op None b = None
strict_of op (Some a) b = option_and_then (strict_value op a) b

strict_gate : (op : Bin) (p q d : Bool) (x y v : ℤ) → gated d v ≡ strict_value op x y → gated ((p && q) && d) v ≡ strict_of op (gated p x) (gated q y)
strict_gate op true true d x y v e = e
strict_gate op true false d x y v e = refl
strict_gate op false q d x y v e = refl

strict-law : (i : Interpretation) (op : Bin) (a b : Trees) → meaning i (strict_trees op a b) ≡ strict_of op (meaning i a) (meaning i b)
unfolding strict_trees
strict-law i op a b =
    simp folded_values
    (strict_gate op (flag_under i a.defined) (flag_under i b.defined) (flag_under i (strict_at op a.value b.value).defined) (word_under i a.value) (word_under i b.value)
    (word_under i (strict_at op a.value b.value).value) (strict-value i a.value b.value op))

-- ---- `&&`, `||` and `?:`

and_gate : (p q n m : Bool) (x y : ℤ) → is_nonzero x ≡ n → is_nonzero y ≡ m → gated (p && (not n || q)) (if n then truth m else pos 0) ≡ binary_of And (gated p x) (gated q y)
and_gate true true true m x y e f = rw (e, f) refl
and_gate true false true m x y e f = rw e refl
and_gate true q false m x y e f = rw e refl
and_gate false q n m x y e f = refl

and-law : (i : Interpretation) (a b : Trees) → meaning i (and_trees a b) ≡ binary_of And (meaning i a) (meaning i b)
unfolding and_trees
and-law i a b =
    simp (folded_values, any_value, nonzero_value, number_value, wrap-0)
    (and_gate (flag_under i a.defined) (flag_under i b.defined) (is_nonzero (word_under i a.value)) (is_nonzero (word_under i b.value)) (word_under i a.value) (word_under i b.value) refl refl)

or_gate : (p q n m : Bool) (x y : ℤ) → is_nonzero x ≡ n → is_nonzero y ≡ m → gated (p && (n || q)) (if n then pos 1 else truth m) ≡ binary_of Or (gated p x) (gated q y)
or_gate true q true m x y e f = rw e refl
or_gate true true false m x y e f = rw (e, f) refl
or_gate true false false m x y e f = rw e refl
or_gate false q n m x y e f = refl

or-law : (i : Interpretation) (a b : Trees) → meaning i (or_trees a b) ≡ binary_of Or (meaning i a) (meaning i b)
unfolding or_trees
or-law i a b =
    simp (folded_values, any_value, nonzero_value, number_value, wrap-1)
    (or_gate (flag_under i a.defined) (flag_under i b.defined) (is_nonzero (word_under i a.value)) (is_nonzero (word_under i b.value)) (word_under i a.value) (word_under i b.value) refl refl)

choice_gate : (p q r n : Bool) (x y z : ℤ) → is_nonzero x ≡ n → gated (p && ((n && q) || (not n && r))) (if n then y else z) ≡ choice_of (gated p x) (gated q y) (gated r z)
choice_gate true true r true x y z e = rw e refl
choice_gate true false r true x y z e = rw e refl
choice_gate true q r false x y z e = rw e refl
choice_gate false q r n x y z e = refl

pub choice_law : (i : Interpretation) (f a b : Trees) → meaning i (choice_trees f a b) ≡ choice_of (meaning i f) (meaning i a) (meaning i b)
unfolding choice_trees
choice_law i f a b =
    simp (folded_values, any_value, nonzero_value)
    (choice_gate (flag_under i f.defined) (flag_under i a.defined) (flag_under i b.defined) (is_nonzero (word_under i f.value)) (word_under i f.value) (word_under i a.value) (word_under i b.value) refl)

-- ---- all binary operators

abbrev is_strict : Bin → Bool
is_strict And = false
is_strict Or = false
is_strict op = true

strict_of-binary : (op : Bin) (a b : Option ℤ) → is_strict op ≡ true → strict_of op a b ≡ binary_of op a b
strict_of-binary And a b h = absurd (false≢true h)
strict_of-binary Or a b h = absurd (false≢true h)
strict_of-binary op None b h = refl
strict_of-binary op (Some a) b h = refl

pub binary_law : (i : Interpretation) (op : Bin) (a b : Trees) → meaning i (binary_trees op a b) ≡ binary_of op (meaning i a) (meaning i b)
binary_law i And a b = and-law i a b
binary_law i Or a b = or-law i a b
binary_law i op a b = strict-law i op a b ∙ strict_of-binary op (meaning i a) (meaning i b) refl
