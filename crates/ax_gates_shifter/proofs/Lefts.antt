-- A shift to the left multiplies by a power of two, modulo the word's.
use Rattle.std.proofs.Common.{◌≡◌, ℕ, zero, suc, ◌+◌, ◌*◌, ◌^◌, Bool, true, false, List, [], ◌∷◌, ◌++◌, length, replicate, refl, ap, sym, subst, ◌∙◌, arith, length-append}
use Rattle.std.proofs.Math.Nat.{pow-succ'}
use Rattle.std.proofs.lemmas.Nat.{pow-add}
use Rattle.ax_proof.specs.Literal.{Literal}
use Rattle.ax_proof.specs.Assignment.{lit_value}
use Rattle.ax_gates.specs.Words.{digit, word_value, fresh, pick_gates}
use Rattle.ax_gates.proofs.Circuits.{Holds, Holds-split, length-fresh}
use Rattle.ax_gates.proofs.WordLaws.{pick_true, pick_false}
use Rattle.ax_gates.proofs.Values.{Wraps, low_part}
use Rattle.ax_gates_shifter.specs.Shifter.{moved_word, shift_gates, shift_outs}
use Rattle.ax_gates_shifter.proofs.Words.{moved_length, length-stage, fresh_as}

zeros_value : (v : ℕ → Bool) (d : Literal) (s : ℕ) (a : List Literal) → digit (lit_value v d) ≡ 0 → word_value v (replicate s d ++ a) ≡ 2 ^ s * word_value v a
zeros_value v d zero a e = omega arith
zeros_value v d (suc s) a e = let h = zeros_value v d s a e in rw (pow-succ' 2 s) (omega arith)

moved_value : (v : ℕ → Bool) (d : Literal) (s : ℕ) (a : List Literal) → digit (lit_value v d) ≡ 0 → Wraps (word_value v (moved_word false d s a)) (2 ^ length a) (2 ^ s * word_value v a)
moved_value v d s a e =
    subst (λ (z : ℕ). Wraps (word_value v (moved_word false d s a)) (2 ^ length a) z) (zeros_value v d s a e)
    (low_part v (length a) (replicate s d ++ a) (let h = length-append (replicate s d) a in omega arith))

wraps_on : (out new m q r : ℕ) → Wraps new m r → Wraps out m (q * new) → Wraps out m (q * r)
wraps_on out new m q r one two =
    record { times = two.times + q * one.times; total = (let a : q * (new + one.times * m) ≡ q * r = ap (λ (z : ℕ). q * z) one.total in let b = two.total in omega arith) }

power_stage : (s w a : ℕ) → 2 ^ (s * 2 * w) * (2 ^ s * a) ≡ 2 ^ (s * (1 + 2 * w)) * a
power_stage s w a =
    let e : s * (1 + 2 * w) ≡ s * 2 * w + s = omega arith in
    rw (e, pow-add 2 (s * 2 * w) s) (omega arith)

-- the word of the last stage is the product, modulo the word's power of two
pub left_adds : (v : ℕ → Bool) (d : Literal) (n : ℕ) (a ks : List Literal) (s : ℕ) → digit (lit_value v d) ≡ 0 → Holds v n (shift_gates false d n a ks s)
    → Wraps (word_value v (shift_outs n a ks)) (2 ^ length a) (2 ^ (s * word_value v ks) * word_value v a)
left_adds v d n a [] s e h = record { times = 0; total = (let z : s * 0 ≡ 0 = omega arith in rw z (omega arith)) }
left_adds v d n a (k ∷ ks) s e h =
    let lm = moved_length false d s a in
    let lf = length-fresh n a in
    let lp = length-stage false d k s a in
    let p = Holds-split v n (n + length a) (pick_gates k (moved_word false d s a) a) (shift_gates false d (n + length a) (fresh n a) ks (s * 2)) (omega arith) h in
    let rest = left_adds v d (n + length a) (fresh n a) ks (s * 2) e p.1 in
    let rest1 = subst (λ (z : ℕ). Wraps (word_value v (shift_outs (n + length a) (fresh n a) ks)) (2 ^ z) (2 ^ (s * 2 * word_value v ks) * word_value v (fresh n a))) lf rest in
    stage (lit_value v k) refl lm p.0 rest1
  where
    stage : (b : Bool) → lit_value v k ≡ b → length (moved_word false d s a) ≡ length a → Holds v n (pick_gates k (moved_word false d s a) a) → Wraps (word_value v (shift_outs (n + length a) (fresh n a) ks)) (2 ^ length a) (2 ^ (s * 2 * word_value v ks) * word_value v (fresh n a)) → Wraps (word_value v (shift_outs (n + length a) (fresh n a) ks)) (2 ^ length a) (2 ^ (s * (digit b + 2 * word_value v ks)) * word_value v a)
    stage true f lm hp rest =
        let new : word_value v (fresh n a) ≡ word_value v (moved_word false d s a) = ap (word_value v) (fresh_as n a (moved_word false d s a) (sym lm)) ∙ pick_true v n k (moved_word false d s a) a f lm hp in
        let one = subst (λ (z : ℕ). Wraps z (2 ^ length a) (2 ^ s * word_value v a)) (sym new) (moved_value v d s a e) in
        subst (λ (z : ℕ). Wraps (word_value v (shift_outs (n + length a) (fresh n a) ks)) (2 ^ length a) z) (power_stage s (word_value v ks) (word_value v a))
        (wraps_on (word_value v (shift_outs (n + length a) (fresh n a) ks)) (word_value v (fresh n a)) (2 ^ length a) (2 ^ (s * 2 * word_value v ks)) (2 ^ s * word_value v a) one rest)
    stage false f lm hp rest =
        let new : word_value v (fresh n a) ≡ word_value v a = ap (word_value v) (fresh_as n a (moved_word false d s a) (sym lm)) ∙ pick_false v n k (moved_word false d s a) a f lm hp in
        let g : s * 2 * word_value v ks ≡ s * (0 + 2 * word_value v ks) = omega arith in
        subst (λ (z : ℕ). Wraps (word_value v (shift_outs (n + length a) (fresh n a) ks)) (2 ^ length a) (2 ^ z * word_value v a)) g
        (subst (λ (z : ℕ). Wraps (word_value v (shift_outs (n + length a) (fresh n a) ks)) (2 ^ length a) (2 ^ (s * 2 * word_value v ks) * z)) new rest)
