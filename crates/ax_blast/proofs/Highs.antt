-- The upper half of the product of two words that are extended by their signs.
use Rattle.std.proofs.Common.{◌≡◌, ℕ, zero, suc, ◌+◌, ◌*◌, ◌-◌, ◌^◌, ◌/◌, ◌%◌, ◌≤◌, ◌<◌, Bool, true, false, List, [], ◌∷◌, ◌++◌, length, take, drop, replicate, slice_index_or, refl, ap, sym, subst, ◌∙◌, arith, w32, w64, FitsSigned, length-append}
use Rattle.std.specs.Prelude.{ℤ, ◌*ℤ◌, unsigned_abs}
use Rattle.std.specs.Int.{cast_signed, int_shr, int_wrap}
use Rattle.std.proofs.Math.Nat.{pow-succ'}
use Rattle.std.proofs.Math.Dec.{leb}
use Rattle.std.proofs.Math.Facts.{to_z-neg}
use Rattle.std.proofs.lemmas.Bool.{leb-true, leb-false}
use Rattle.std.proofs.lemmas.Int.{to_z_pos, wrapping_mul-bits, int_wrap_fits, fits_signed_mul}
use Rattle.std.proofs.lemmas.List.{length-replicate, length-drop, take_all}
use Rattle.ax_proof.specs.Literal.{Literal}
use Rattle.ax_proof.specs.Assignment.{lit_value}
use Rattle.ax_gates.specs.Words.{digit, word_value, lit_false}
use Rattle.ax_gates.proofs.Values.{digit-lt, word_value-lt}
use Rattle.ax_gates_adders.specs.Adders.{signed_value}
use Rattle.ax_gates_shifter.proofs.Laws.{top_clear}
use Rattle.ax_gates_shifter.proofs.Rights.{drop_value}
use Rattle.ax_term.proofs.ValueLemmas.{cast_signed_fits}
use Rattle.ax_gates_multiplier.specs.Products.{prod_outs}
use Rattle.ax_gates_multiplier.proofs.RowLaws.{length-prod_outs}
use Rattle.ax_blast.specs.Blocks.{extended}
use lib.IntN.{pos, negsuc}

append_value : (v : ℕ → Bool) (a b : List Literal) → word_value v (a ++ b) ≡ word_value v a + 2 ^ length a * word_value v b
append_value v [] b = omega arith
append_value v (x ∷ a) b = let h = append_value v a b in rw (pow-succ' 2 (length a)) (omega arith)

copies_clear : (v : ℕ → Bool) (d : Literal) (s : ℕ) → lit_value v d ≡ false → word_value v (replicate s d) ≡ 0
copies_clear v d zero e = refl
copies_clear v d (suc s) e = let h = copies_clear v d s e in let f : digit (lit_value v d) ≡ 0 = ap digit e in omega arith

copies_set : (v : ℕ → Bool) (d : Literal) (s : ℕ) → lit_value v d ≡ true → word_value v (replicate s d) + 1 ≡ 2 ^ s
copies_set v d zero e = refl
copies_set v d (suc s) e = let h = copies_set v d s e in let f : digit (lit_value v d) ≡ 1 = ap digit e in rw (pow-succ' 2 s) (omega arith)

-- a word whose top bit is 1 is in the upper half
top_set : (v : ℕ → Bool) (k : ℕ) (a : List Literal) (d : Literal) → length a ≡ suc k → lit_value v (slice_index_or a k d) ≡ true → 2 ^ k ≤ word_value v a
top_set v k [] d l e = absurd (omega arith)
top_set v zero (x ∷ []) d l e = let z : digit (lit_value v x) ≡ 1 = ap digit e in omega arith
top_set v zero (x ∷ y ∷ a) d l e = absurd (omega arith)
top_set v (suc k) (x ∷ a) d l e = let r = top_set v k a d (omega arith) e in omega (arith, pow-succ' 2 k)

pub length-extended : (a : List Literal) → length a ≡ 32 → length (extended a) ≡ 64
length-extended a l = let p = length-append a (replicate 32 (slice_index_or a 31 lit_false)) in let q = length-replicate 32 (slice_index_or a 31 lit_false) in omega arith

extended_value : (v : ℕ → Bool) (a : List Literal) → length a ≡ 32 → word_value v (extended a) ≡ word_value v a + 2 ^ 32 * word_value v (replicate 32 (slice_index_or a 31 lit_false))
extended_value v a l =
    append_value v a (replicate 32 (slice_index_or a 31 lit_false))
    ∙ ap (λ (k : ℕ). word_value v a + 2 ^ k * word_value v (replicate 32 (slice_index_or a 31 lit_false))) l

below_32 : (v : ℕ → Bool) (a : List Literal) → length a ≡ 32 → word_value v a < 2 ^ 32
below_32 v a l = subst (λ (k : ℕ). word_value v a < 2 ^ k) l (word_value-lt v a)

upper_word : (m w c : ℕ) → w ≡ m + 2 ^ 32 * c → c + 1 ≡ 2 ^ 32 → m < 2 ^ 32 → w ≡ 2 ^ 64 - suc (2 ^ 32 - suc m)
upper_word m w c e f l = omega arith

-- extended by its sign, a word is the same number
extended_signed : (v : ℕ → Bool) (a : List Literal) → length a ≡ 32 → cast_signed w64 (word_value v (extended a)) ≡ signed_value v a
extended_signed v a l = by (lit_value v (slice_index_or a 31 lit_false)) refl
  where
    by : (b : Bool) → lit_value v (slice_index_or a 31 lit_false) ≡ b → cast_signed w64 (word_value v (extended a)) ≡ signed_value v a
    by false e =
        let low = top_clear v 31 a lit_false l e in
        let z = copies_clear v (slice_index_or a 31 lit_false) 32 e in
        let same : word_value v (extended a) ≡ word_value v a = extended_value v a l ∙ (ap (λ (c : ℕ). word_value v a + 2 ^ 32 * c) z ∙ omega arith) in
        ap (cast_signed w64) same ∙ (to_z_pos w64 (word_value v a) (omega arith) ∙ sym (to_z_pos w32 (word_value v a) low))
    by true e =
        let up = top_set v 31 a lit_false l e in
        let z = copies_set v (slice_index_or a 31 lit_false) 32 e in
        let small = below_32 v a l in
        let wide = upper_word (word_value v a) (word_value v (extended a)) (word_value v (replicate 32 (slice_index_or a 31 lit_false))) (extended_value v a l) z small in
        let narrow : word_value v a ≡ 2 ^ 32 - suc (2 ^ 32 - suc (word_value v a)) = omega arith in
        ap (cast_signed w64) wide
        ∙ (to_z-neg w64 (2 ^ 32 - suc (word_value v a)) (omega arith)
        ∙ sym (ap (cast_signed w32) narrow ∙ to_z-neg w32 (2 ^ 32 - suc (word_value v a)) (omega arith)))

abs_at_most : (z : ℤ) → FitsSigned w32 z → unsigned_abs z ≤ 2 ^ 31
abs_at_most (pos n) h = omega (arith, h.sfits)
abs_at_most (negsuc n) h = omega (arith, h.sfits)

abs_word : (v : ℕ → Bool) (a : List Literal) → length a ≡ 32 → unsigned_abs (signed_value v a) ≤ 2 ^ 31
abs_word v a l = abs_at_most (signed_value v a) (cast_signed_fits (word_value v a) (below_32 v a l))

below_64 : (v : ℕ → Bool) (a : List Literal) → length a ≡ 64 → word_value v a < 2 ^ 64
below_64 v a l = subst (λ (k : ℕ). word_value v a < 2 ^ k) l (word_value-lt v a)

-- the product of the extended words is the product, without wrapping
wide_product : (v : ℕ → Bool) (a b : List Literal) (p : ℕ) → length a ≡ 32 → length b ≡ 32 → p ≡ (word_value v (extended a) * word_value v (extended b)) % 2 ^ 64 → cast_signed w64 p ≡ signed_value v a *ℤ signed_value v b
wide_product v a b p la lb e =
    let x = below_64 v (extended a) (length-extended a la) in
    let y = below_64 v (extended b) (length-extended b lb) in
    ap (cast_signed w64) e
    ∙ (wrapping_mul-bits w64 (word_value v (extended a)) (word_value v (extended b)) x y
    ∙ (ap (λ (z : ℤ). int_wrap w64 (z *ℤ cast_signed w64 (word_value v (extended b)))) (extended_signed v a la)
    ∙ (ap (λ (z : ℤ). int_wrap w64 (signed_value v a *ℤ z)) (extended_signed v b lb)
    ∙ int_wrap_fits w64 (signed_value v a *ℤ signed_value v b) (fits_signed_mul w64 (signed_value v a) (signed_value v b) (2 ^ 31) (2 ^ 31) (abs_word v a la) (abs_word v b lb) (omega arith)))))

upper_half : (p : ℕ) → 2 ^ 63 ≤ p → p < 2 ^ 64 → p / 2 ^ 32 ≡ 2 ^ 32 - suc ((2 ^ 64 - suc p) / 2 ^ 32)
upper_half p l h = omega arith

-- the upper half of a word of 64 bits is its number shifted by 32 places
half_signed : (p : ℕ) → p < 2 ^ 64 → cast_signed w32 (p / 2 ^ 32) ≡ int_shr (cast_signed w64 p) 32
half_signed p h = by (leb (2 ^ 63) p) refl
  where
    by : (b : Bool) → leb (2 ^ 63) p ≡ b → cast_signed w32 (p / 2 ^ 32) ≡ int_shr (cast_signed w64 p) 32
    by false e =
        let low = leb-false (2 ^ 63) p e in
        to_z_pos w32 (p / 2 ^ 32) (omega arith) ∙ sym (ap (λ (z : ℤ). int_shr z 32) (to_z_pos w64 p (omega arith)))
    by true e =
        let up = leb-true (2 ^ 63) p e in
        let whole : p ≡ 2 ^ 64 - suc (2 ^ 64 - suc p) = omega arith in
        ap (cast_signed w32) (upper_half p up h)
        ∙ (to_z-neg w32 ((2 ^ 64 - suc p) / 2 ^ 32) (omega arith)
        ∙ sym (ap (λ (z : ℤ). int_shr z 32) (ap (cast_signed w64) whole ∙ to_z-neg w64 (2 ^ 64 - suc p) (omega arith))))

pub high_law : (v : ℕ → Bool) (a b outs : List Literal) → length a ≡ 32 → length b ≡ 32 → length outs ≡ 64 → word_value v outs ≡ (word_value v (extended a) * word_value v (extended b)) % 2 ^ 64
    → signed_value v (take 32 (drop 32 outs)) ≡ int_shr (signed_value v a *ℤ signed_value v b) 32
high_law v a b outs la lb lo e =
    let d = length-drop 32 outs in
    let same : word_value v (take 32 (drop 32 outs)) ≡ word_value v outs / 2 ^ 32 = ap (word_value v) (take_all 32 (drop 32 outs) (omega arith)) ∙ drop_value v 32 outs in
    ap (cast_signed w32) same
    ∙ (half_signed (word_value v outs) (below_64 v outs lo) ∙ ap (λ (z : ℤ). int_shr z 32) (wide_product v a b (word_value v outs) la lb e))

pub product_width : (n : ℕ) (a b outs : List Literal) → length a ≡ 64 → length b ≡ 64 → outs ≡ prod_outs n a b → length outs ≡ 64
product_width n a b outs la lb e = ap length e ∙ (length-prod_outs n a b (omega arith) (la ∙ sym lb) ∙ la)
