-- What a satisfied shift says.
use Rattle.std.proofs.Common.{◌≡◌, ℕ, zero, suc, ◌+◌, ◌*◌, ◌-◌, ◌^◌, ◌/◌, ◌%◌, ◌≤◌, ◌<◌, Bool, true, false, not, List, [], ◌∷◌, length, take, refl, ap, sym, subst, ◌∙◌, arith, w32, slice_index_or}
use Rattle.std.specs.Prelude.{ℤ}
use Rattle.std.specs.Int.{cast_signed, int_shl, int_shr}
use Rattle.std.proofs.Math.Nat.{pow-succ'}
use Rattle.std.proofs.lemmas.Int.{to_z_pos, of_z-to_z}
use Rattle.std.proofs.lemmas.List.{length-take-le}
use Rattle.std.proofs.Math.Facts.{to_z-neg}
use Rattle.ax_proof.specs.Literal.{Literal, IsOver}
use Rattle.ax_proof.specs.Assignment.{lit_value, satisfies}
use Rattle.ax_gates.specs.Gates.{blocks}
use Rattle.ax_gates.specs.Words.{digit, word_value, fresh, lit_true, lit_false, Extends}
use Rattle.ax_gates.proofs.Circuits.{WithinVars, Holds, over_within, within_take, blocks_hold, wired_extends, length-fresh}
use Rattle.ax_gates.proofs.Values.{digit-lt, word_value-lt, wraps_mod, low_part}
use Rattle.ax_gates_shifter.specs.Shifter.{filling, shift_gates, shift_outs, signed_value, shifted}
use Rattle.ax_gates_shifter.proofs.Words.{shift_wired}
use Rattle.ax_gates_shifter.proofs.Lefts.{left_adds}
use Rattle.ax_gates_shifter.proofs.Rights.{flipped, flipped_lit, flipped_value, right_clear, right_set}

length-outs : (n : ℕ) (a ks : List Literal) → length (shift_outs n a ks) ≡ length a
length-outs n a [] = refl
length-outs n a (k ∷ ks) = length-outs (n + length a) (fresh n a) ks ∙ length-fresh n a

-- the low five bits are the count modulo 32
pub low_count : (v : ℕ → Bool) (ks : List Literal) → length ks ≡ 32 → word_value v (take 5 ks) ≡ word_value v ks % 32
low_count v ks l =
    let t = length-take-le 5 ks (omega arith) in
    let lt : word_value v (take 5 ks) < 2 ^ 5 = subst (λ (k : ℕ). word_value v (take 5 ks) < 2 ^ k) t (word_value-lt v (take 5 ks)) in
    wraps_mod (word_value v (take 5 ks)) 32 (word_value v ks) lt (low_part v 5 ks (omega arith))

bits_32 : (v : ℕ → Bool) (a : List Literal) → length a ≡ 32 → word_value v a < 2 ^ 32
bits_32 v a l = subst (λ (k : ℕ). word_value v a < 2 ^ k) l (word_value-lt v a)

left_law : (v : ℕ → Bool) (n : ℕ) (a ks : List Literal) → length a ≡ 32 → lit_value v lit_true ≡ true → Holds v n (shift_gates false lit_false n a ks 1)
    → signed_value v (shift_outs n a ks) ≡ int_shl w32 (signed_value v a) (word_value v ks)
left_law v n a ks l e h =
    let z : digit (lit_value v lit_false) ≡ 0 = ap (λ (b : Bool). digit (not b)) e in
    let r = left_adds v lit_false n a ks 1 z h in
    let out : word_value v (shift_outs n a ks) < 2 ^ length a = subst (λ (k : ℕ). word_value v (shift_outs n a ks) < 2 ^ k) (length-outs n a ks) (word_value-lt v (shift_outs n a ks)) in
    let m = wraps_mod (word_value v (shift_outs n a ks)) (2 ^ length a) (2 ^ (1 * word_value v ks) * word_value v a) out r in
    let one : 1 * word_value v ks ≡ word_value v ks = omega arith in
    let swap : 2 ^ (1 * word_value v ks) * word_value v a ≡ word_value v a * 2 ^ word_value v ks = ap (λ (k : ℕ). 2 ^ k * word_value v a) one ∙ omega arith in
    let back = of_z-to_z w32 (word_value v a) (bits_32 v a l) in
    ap (cast_signed w32)
    (m ∙ (ap (λ (k : ℕ). (2 ^ (1 * word_value v ks) * word_value v a) % 2 ^ k) l
    ∙ (ap (λ (k : ℕ). k % 2 ^ 32) swap ∙ ap (λ (k : ℕ). (k * 2 ^ word_value v ks) % 2 ^ 32) (sym back))))

-- a word whose top bit is 0 is in the lower half
pub top_clear : (v : ℕ → Bool) (k : ℕ) (a : List Literal) (d : Literal) → length a ≡ suc k → lit_value v (slice_index_or a k d) ≡ false → word_value v a < 2 ^ k
top_clear v k [] d l e = absurd (omega arith)
top_clear v zero (x ∷ []) d l e = let z : digit (lit_value v x) ≡ 0 = ap digit e in omega arith
top_clear v zero (x ∷ y ∷ a) d l e = absurd (omega arith)
top_clear v (suc k) (x ∷ a) d l e =
    let r = top_clear v k a d (omega arith) e in
    let b = digit-lt (lit_value v x) in
    omega (arith, pow-succ' 2 k)

half_less : (m k : ℕ) → m / 2 ^ k ≤ m
half_less m k = omega arith

right_law : (v : ℕ → Bool) (n : ℕ) (a ks : List Literal) → length a ≡ 32 → Holds v n (shift_gates true (slice_index_or a 31 lit_false) n a ks 1)
    → signed_value v (shift_outs n a ks) ≡ int_shr (signed_value v a) (word_value v ks)
right_law v n a ks l h = by (lit_value v (slice_index_or a 31 lit_false)) refl
  where
    by : (b : Bool) → lit_value v (slice_index_or a 31 lit_false) ≡ b → signed_value v (shift_outs n a ks) ≡ int_shr (signed_value v a) (word_value v ks)
    by false e =
        let low : word_value v a < 2 ^ 31 = top_clear v 31 a lit_false l e in
        let r = right_clear v n (slice_index_or a 31 lit_false) a ks e h in
        let less = half_less (word_value v a) (word_value v ks) in
        let out : word_value v a / 2 ^ word_value v ks < 2 ^ 31 = omega arith in
        ap (cast_signed w32) r ∙ (to_z_pos w32 (word_value v a / 2 ^ word_value v ks) out ∙ sym (ap (λ (z : ℤ). int_shr z (word_value v ks)) (to_z_pos w32 (word_value v a) low)))
    by true e =
        let clear : lit_value (flipped v) (slice_index_or a 31 lit_false) ≡ false = flipped_lit v (slice_index_or a 31 lit_false) ∙ ap not e in
        let low : word_value (flipped v) a < 2 ^ 31 = top_clear (flipped v) 31 a lit_false l clear in
        let r = right_set v n (slice_index_or a 31 lit_false) a ks e h in
        let less = half_less (word_value (flipped v) a) (word_value v ks) in
        let out : word_value (flipped v) a / 2 ^ word_value v ks < 2 ^ 31 = omega arith in
        let fa : word_value (flipped v) a + word_value v a + 1 ≡ 2 ^ 32 = flipped_value v a ∙ ap (λ (k : ℕ). 2 ^ k) l in
        let fo : word_value (flipped v) (shift_outs n a ks) + word_value v (shift_outs n a ks) + 1 ≡ 2 ^ 32 = flipped_value v (shift_outs n a ks) ∙ ap (λ (k : ℕ). 2 ^ k) (length-outs n a ks ∙ l) in
        ap (cast_signed w32) (below (word_value (flipped v) (shift_outs n a ks)) (word_value v (shift_outs n a ks)) (word_value (flipped v) a / 2 ^ word_value v ks) r fo)
        ∙ (to_z-neg w32 (word_value (flipped v) a / 2 ^ word_value v ks) out
        ∙ sym (ap (λ (z : ℤ). int_shr z (word_value v ks)) (ap (cast_signed w32) (below (word_value (flipped v) a) (word_value v a) (word_value (flipped v) a) refl fa) ∙ to_z-neg w32 (word_value (flipped v) a) low)))
      where
        below : (f w g : ℕ) → f ≡ g → f + w + 1 ≡ 2 ^ 32 → w ≡ 2 ^ 32 - suc g
        below f w g e t = omega arith

pub shift_law : (v : ℕ → Bool) (n : ℕ) (a ks : List Literal) (right : Bool) → length a ≡ 32 → length ks ≡ 32 → lit_value v lit_true ≡ true
    → satisfies v (blocks n (shift_gates right (filling right a) n a (take 5 ks) 1)) ≡ true
    → signed_value v (shift_outs n a (take 5 ks)) ≡ shifted right (signed_value v a) (word_value v ks % 32)
shift_law v n a ks true l lk e h =
    right_law v n a (take 5 ks) l (blocks_hold v n (shift_gates true (filling true a) n a (take 5 ks) 1) h)
    ∙ ap (int_shr (signed_value v a)) (low_count v ks lk)
shift_law v n a ks false l lk e h =
    left_law v n a (take 5 ks) l e (blocks_hold v n (shift_gates false (filling false a) n a (take 5 ks) 1) h)
    ∙ ap (int_shl w32 (signed_value v a)) (low_count v ks lk)

within_index : (n : ℕ) (a : List Literal) (i : ℕ) (d : Literal) → d.var ≤ n → WithinVars n a → (slice_index_or a i d).var ≤ n
within_index n [] i d wd wa = wd
within_index n (x ∷ a) zero d wd wa = wa.0
within_index n (x ∷ a) (suc i) d wd wa = within_index n a i d wd wa.1

within_filling : (n : ℕ) (right : Bool) (a : List Literal) → 1 ≤ n → WithinVars n a → (filling right a).var ≤ n
within_filling n true a low wa = within_index n a 31 lit_false low wa
within_filling n false a low wa = low

pub shift_extends : (n : ℕ) (a ks : List Literal) (right : Bool) → 1 ≤ n → IsOver n a → IsOver n ks → Extends n (blocks n (shift_gates right (filling right a) n a (take 5 ks) 1))
shift_extends n a ks right low oa ok =
    let wa = over_within n a oa in
    wired_extends n (shift_gates right (filling right a) n a (take 5 ks) 1)
    (shift_wired right (filling right a) n a (take 5 ks) 1 (within_filling n right a low wa) wa (within_take n 5 ks (over_within n ks ok)))
