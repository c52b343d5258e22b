-- What the blocks of operators say.
use Rattle.std.proofs.Common.{◌≡◌, ℕ, zero, suc, ◌+◌, ◌*◌, ◌-◌, ◌^◌, ◌/◌, ◌%◌, ◌≤◌, ◌<◌, Bool, true, false, not, List, [], ◌∷◌, length, take, drop, map, replicate, nat_eq, slice_index_or, refl, ap, sym, subst, ◌∙◌, arith, w32}
use Rattle.std.specs.Prelude.{ℤ, bit_and, bit_or, bit_xor}
use Rattle.std.specs.Int.{cast_signed, cast_unsigned, int_shl, int_shr}
use Rattle.std.specs.Ordering.{int_eq}
use Rattle.std.proofs.Math.Nat.{pow-succ'}
use Rattle.std.proofs.lemmas.Bool.Decides.{Decides-int_eq, same_from_decides}
use Rattle.std.proofs.lemmas.Int.{wrapping_add-bits, wrapping_sub-bits, wrapping_mul-bits, of_z-to_z}
use Rattle.ax_proof.specs.Literal.{Literal, literal, negation, IsOver}
use Rattle.ax_proof.specs.Assignment.{lit_value, satisfies}
use Rattle.ax_gates.specs.Gates.{blocks, next}
use Rattle.ax_gates.specs.Words.{digit, word_value, fresh, lit_true, lit_false, Extends}
use Rattle.ax_gates.proofs.Circuits.{WithinVars, over_within, within_append, within_negation, wired_extends}
use Rattle.ax_gates.proofs.Values.{negation_digit, word_value-lt}
use Rattle.ax_gates.proofs.WordLaws.{and_word_law, or_word_law, xor_word_law, and_word_extends, or_word_extends, xor_word_extends}
use Rattle.ax_gates_adders.specs.Adders.{wrap_gates, wrap_outs, signed_value}
use Rattle.ax_gates_adders.proofs.Additions.{wrap_wired}
use Rattle.ax_gates_adders.proofs.Laws.{sum_law, sum_extends, equal_law, equal_extends, less_law, less_extends}
use Rattle.ax_gates_shifter.proofs.Laws.{shift_law, shift_extends}
use Rattle.ax_gates_multiplier.specs.Products.{prod_outs}
use Rattle.ax_gates_multiplier.proofs.RowLaws.{prod_wired, length-prod_outs}
use Rattle.ax_gates_multiplier.proofs.Laws.{prod_law, prod_extends}
use Rattle.ax_gates_divider.specs.Divisions.{quotient_of, remainder_of}
use Rattle.ax_gates_divider.proofs.Laws.{quotient_law, remainder_law, division_extends}
use Rattle.ax_term.specs.Values.{op_value, test_value, unsigned_quot, unsigned_left}
use Rattle.ax_term.specs.declared.WordOp.{WordOp}
use Rattle.ax_term.specs.declared.WordOp.TheVariants.{Add, Sub, Mul, High, Quot, Left, Shl, Shr, And, Or, Xor}
use Rattle.ax_term.specs.declared.TestOp.{TestOp}
use Rattle.ax_term.specs.declared.TestOp.TheVariants.{Eq, Lt}
use Rattle.ax_blast.specs.Blocks.{extended, word_gates, word_outs, test_gates, test_out}
use Rattle.ax_blast.proofs.Highs.{length-extended, high_law}

bits_32 : (v : ℕ → Bool) (a : List Literal) → length a ≡ 32 → word_value v a < 2 ^ 32
bits_32 v a l = subst (λ (k : ℕ). word_value v a < 2 ^ k) l (word_value-lt v a)

-- the bits of a word's number with sign are the word
back : (v : ℕ → Bool) (a : List Literal) → length a ≡ 32 → cast_unsigned w32 (signed_value v a) ≡ word_value v a
back v a l = of_z-to_z w32 (word_value v a) (bits_32 v a l)

false_digit : (v : ℕ → Bool) → lit_value v lit_true ≡ true → digit (lit_value v lit_false) ≡ 0
false_digit v e = ap (λ (b : Bool). digit (not b)) e

true_digit : (v : ℕ → Bool) → lit_value v lit_true ≡ true → digit (lit_value v lit_true) ≡ 1
true_digit v e = ap digit e

negated_value : (v : ℕ → Bool) (b : List Literal) → word_value v (map negation b) + word_value v b + 1 ≡ 2 ^ length b
negated_value v [] = refl
negated_value v (x ∷ b) = let h = negated_value v b in let d = negation_digit v x in rw (pow-succ' 2 (length b)) (omega arith)

length-negated : (b : List Literal) → length (map negation b) ≡ length b
length-negated [] = refl
length-negated (x ∷ b) = ap suc (length-negated b)

add_law : (v : ℕ → Bool) (n : ℕ) (a b : List Literal) → length a ≡ 32 → length b ≡ 32 → lit_value v lit_true ≡ true → satisfies v (blocks n (wrap_gates n a b lit_false)) ≡ true
    → signed_value v (wrap_outs n a) ≡ op_value Add (signed_value v a) (signed_value v b)
add_law v n a b la lb e h =
    let s = sum_law v n a b lit_false false (omega arith) (la ∙ sym lb) h in
    let z = false_digit v e in
    let t : word_value v a + word_value v b + digit (lit_value v lit_false) ≡ word_value v a + word_value v b = omega arith in
    ap (cast_signed w32) (s ∙ (ap (λ (k : ℕ). (word_value v a + word_value v b + digit (lit_value v lit_false)) % 2 ^ k) la ∙ ap (λ (k : ℕ). k % 2 ^ 32) t))
    ∙ wrapping_add-bits w32 (word_value v a) (word_value v b) (bits_32 v a la) (bits_32 v b lb)

sub_law : (v : ℕ → Bool) (n : ℕ) (a b : List Literal) → length a ≡ 32 → length b ≡ 32 → lit_value v lit_true ≡ true → satisfies v (blocks n (wrap_gates n a (map negation b) lit_true)) ≡ true
    → signed_value v (wrap_outs n a) ≡ op_value Sub (signed_value v a) (signed_value v b)
sub_law v n a b la lb e h =
    let lm = length-negated b in
    let s = sum_law v n a (map negation b) lit_true false (omega arith) (omega arith) h in
    let z = true_digit v e in
    let small = bits_32 v b lb in
    let m : word_value v (map negation b) + word_value v b + 1 ≡ 2 ^ 32 = negated_value v b ∙ ap (λ (k : ℕ). 2 ^ k) lb in
    let t : word_value v a + word_value v (map negation b) + digit (lit_value v lit_true) ≡ word_value v a + (2 ^ 32 - word_value v b) = omega arith in
    ap (cast_signed w32) (s ∙ (ap (λ (k : ℕ). (word_value v a + word_value v (map negation b) + digit (lit_value v lit_true)) % 2 ^ k) la ∙ ap (λ (k : ℕ). k % 2 ^ 32) t))
    ∙ wrapping_sub-bits w32 (word_value v a) (word_value v b) (bits_32 v a la) (bits_32 v b lb)

quotient_is : (k x y : ℕ) → k ≡ 32 → quotient_of k x y ≡ unsigned_quot x y
quotient_is k x zero e = ap (λ (z : ℕ). 2 ^ z - 1) e
quotient_is k x (suc y) e = refl

remainder_is : (x y : ℕ) → remainder_of x y ≡ unsigned_left x y
remainder_is x zero = refl
remainder_is x (suc y) = refl

-- a function of two words, at their numbers with sign
at_signed : (f : ℕ → ℕ → ℕ) (v : ℕ → Bool) (a b : List Literal) → length a ≡ 32 → length b ≡ 32 → f (word_value v a) (word_value v b) ≡ f (cast_unsigned w32 (signed_value v a)) (cast_unsigned w32 (signed_value v b))
at_signed f v a b la lb = ap (λ (x : ℕ). f x (word_value v b)) (sym (back v a la)) ∙ ap (λ (y : ℕ). f (cast_unsigned w32 (signed_value v a)) y) (sym (back v b lb))

pub op_law : (v : ℕ → Bool) (n : ℕ) (op : WordOp) (a b : List Literal) → length a ≡ 32 → length b ≡ 32 → lit_value v lit_true ≡ true → satisfies v (blocks n (word_gates op n a b)) ≡ true
    → signed_value v (word_outs op n a b) ≡ op_value op (signed_value v a) (signed_value v b)
op_law v n Add a b la lb e h = add_law v n a b la lb e h
op_law v n Sub a b la lb e h = sub_law v n a b la lb e h
op_law v n Mul a b la lb e h =
    ap (cast_signed w32) (prod_law v n a b (omega arith) (la ∙ sym lb) e h ∙ ap (λ (k : ℕ). (word_value v a * word_value v b) % 2 ^ k) la)
    ∙ wrapping_mul-bits w32 (word_value v a) (word_value v b) (bits_32 v a la) (bits_32 v b lb)
op_law v n High a b la lb e h =
    let xa = length-extended a la in
    let xb = length-extended b lb in
    high_law v a b (prod_outs n (extended a) (extended b)) la lb (length-prod_outs n (extended a) (extended b) (omega arith) (xa ∙ sym xb) ∙ xa)
    (prod_law v n (extended a) (extended b) (omega arith) (xa ∙ sym xb) e h ∙ ap (λ (k : ℕ). (word_value v (extended a) * word_value v (extended b)) % 2 ^ k) xa)
op_law v n Quot a b la lb e h =
    ap (cast_signed w32) (quotient_law v n a b (la ∙ sym lb) e h ∙ (quotient_is (length a) (word_value v a) (word_value v b) la ∙ at_signed unsigned_quot v a b la lb))
op_law v n Left a b la lb e h =
    ap (cast_signed w32) (remainder_law v n a b (la ∙ sym lb) e h ∙ (remainder_is (word_value v a) (word_value v b) ∙ at_signed unsigned_left v a b la lb))
op_law v n Shl a b la lb e h = shift_law v n a b false la lb e h ∙ ap (λ (k : ℕ). int_shl w32 (signed_value v a) (k % 32)) (sym (back v b lb))
op_law v n Shr a b la lb e h = shift_law v n a b true la lb e h ∙ ap (λ (k : ℕ). int_shr (signed_value v a) (k % 32)) (sym (back v b lb))
op_law v n And a b la lb e h = ap (cast_signed w32) (and_word_law v n a b (la ∙ sym lb) h ∙ at_signed bit_and v a b la lb)
op_law v n Or a b la lb e h = ap (cast_signed w32) (or_word_law v n a b (la ∙ sym lb) h ∙ at_signed bit_or v a b la lb)
op_law v n Xor a b la lb e h = ap (cast_signed w32) (xor_word_law v n a b (la ∙ sym lb) h ∙ at_signed bit_xor v a b la lb)

within_copies : (n s : ℕ) (d : Literal) → d.var ≤ n → WithinVars n (replicate s d)
within_copies n zero d h = tt
within_copies n (suc s) d h = (h, within_copies n s d h)

within_index : (n : ℕ) (a : List Literal) (i : ℕ) (d : Literal) → d.var ≤ n → WithinVars n a → (slice_index_or a i d).var ≤ n
within_index n [] i d wd wa = wd
within_index n (x ∷ a) zero d wd wa = wa.0
within_index n (x ∷ a) (suc i) d wd wa = within_index n a i d wd wa.1

within_extended : (n : ℕ) (a : List Literal) → 1 ≤ n → WithinVars n a → WithinVars n (extended a)
within_extended n a low wa = within_append n a (replicate 32 (slice_index_or a 31 lit_false)) wa (within_copies n 32 (slice_index_or a 31 lit_false) (within_index n a 31 lit_false low wa))

pub op_extends : (n : ℕ) (op : WordOp) (a b : List Literal) → length a ≡ 32 → length b ≡ 32 → 1 ≤ n → IsOver n a → IsOver n b → Extends n (blocks n (word_gates op n a b))
op_extends n Add a b la lb low oa ob = sum_extends n a b lit_false false oa ob low
op_extends n Sub a b la lb low oa ob = wired_extends n (wrap_gates n a (map negation b) lit_true) (wrap_wired n a (map negation b) lit_true (over_within n a oa) (within_negation n b (over_within n b ob)) low)
op_extends n Mul a b la lb low oa ob = prod_extends n a b (la ∙ sym lb) low oa ob
op_extends n High a b la lb low oa ob =
    wired_extends n (word_gates High n a b)
    (prod_wired n (extended a) (extended b) low (length-extended a la ∙ sym (length-extended b lb)) (within_extended n a low (over_within n a oa)) (within_extended n b low (over_within n b ob)))
op_extends n Quot a b la lb low oa ob = division_extends n a b low oa ob
op_extends n Left a b la lb low oa ob = division_extends n a b low oa ob
op_extends n Shl a b la lb low oa ob = shift_extends n a b false low oa ob
op_extends n Shr a b la lb low oa ob = shift_extends n a b true low oa ob
op_extends n And a b la lb low oa ob = and_word_extends n a b oa ob
op_extends n Or a b la lb low oa ob = or_word_extends n a b oa ob
op_extends n Xor a b la lb low oa ob = xor_word_extends n a b oa ob

eq_is : (x y : ℕ) → nat_eq x y ≡ true → x ≡ y
eq_is x y e = grind arith

is_eq : (x y : ℕ) → x ≡ y → nat_eq x y ≡ true
is_eq x y e = grind arith

equal_tie : (m n : ℕ) → m < 2 ^ 32 → n < 2 ^ 32 → nat_eq m n ≡ int_eq (cast_signed w32 m) (cast_signed w32 n)
equal_tie m n p q =
    same_from_decides {P = cast_signed w32 m ≡ cast_signed w32 n} (nat_eq m n) (int_eq (cast_signed w32 m) (cast_signed w32 n))
    ((λ e. ap (cast_signed w32) (eq_is m n e)), (λ e. is_eq m n (sym (of_z-to_z w32 m p) ∙ (ap (cast_unsigned w32) e ∙ of_z-to_z w32 n q))))
    (Decides-int_eq (cast_signed w32 m) (cast_signed w32 n))

pub test_law : (v : ℕ → Bool) (n : ℕ) (op : TestOp) (a b : List Literal) → length a ≡ 32 → length b ≡ 32 → lit_value v lit_true ≡ true → satisfies v (blocks n (test_gates op n a b)) ≡ true
    → lit_value v (test_out op n) ≡ test_value op (signed_value v a) (signed_value v b)
test_law v n Eq a b la lb e h =
    ap (λ (k : ℕ). lit_value v (next (n + k))) (sym la)
    ∙ (equal_law v n a b (la ∙ sym lb) h ∙ equal_tie (word_value v a) (word_value v b) (bits_32 v a la) (bits_32 v b lb))
test_law v n Lt a b la lb e h = less_law v n a b la lb e h

pub test_extends : (n : ℕ) (op : TestOp) (a b : List Literal) → length a ≡ 32 → length b ≡ 32 → 1 ≤ n → IsOver n a → IsOver n b → Extends n (blocks n (test_gates op n a b))
test_extends n Eq a b la lb low oa ob = equal_extends n a b (la ∙ sym lb) oa ob
test_extends n Lt a b la lb low oa ob = less_extends n a b low oa ob
