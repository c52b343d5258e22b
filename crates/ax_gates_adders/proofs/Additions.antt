-- What sums add up to.
use Rattle.std.proofs.Common.{◌≡◌, ℕ, zero, suc, ◌+◌, ◌*◌, ◌^◌, ◌≤◌, ◌<◌, Bool, true, false, List, [], ◌∷◌, length, refl, subst, arith}
use Rattle.std.proofs.Math.Nat.{pow-succ'}
use Rattle.ax_proof.specs.Literal.{Literal}
use Rattle.ax_proof.specs.Assignment.{lit_value}
use Rattle.ax_gates.specs.Gates.{next, majority_of}
use Rattle.ax_gates.specs.Words.{digit, word_value}
use Rattle.ax_gates.proofs.GateLaws.{add1_digits}
use Rattle.ax_gates.proofs.Circuits.{WithinVars, Holds, Wired, within_more}
use Rattle.ax_gates.proofs.Values.{Wraps}
use Rattle.ax_gates_adders.specs.Adders.{carry_gates, carry_outs, wrap_gates, wrap_outs}

-- sums
pub carry_adds : (v : ℕ → Bool) (n : ℕ) (a b : List Literal) (c : Literal) → length a ≡ length b → Holds v n (carry_gates n a b c) → word_value v (carry_outs n a c) ≡ word_value v a + word_value v b + digit (lit_value v c)
carry_adds v n [] [] c e h = omega arith
carry_adds v n [] (y ∷ b) c e h = absurd (omega arith)
carry_adds v n (x ∷ a) [] c e h = absurd (omega arith)
carry_adds v n (x ∷ a) (y ∷ b) c e h =
    let d = add1_digits (v (n + 1)) (v (n + 1 + 1)) (lit_value v x) (lit_value v y) (lit_value v c) h.0 h.1.0 in
    let g : Holds v (n + 1 + 1) (carry_gates (n + 1 + 1) a b (next (n + 1))) = subst (λ (k : ℕ). Holds v k (carry_gates (n + 1 + 1) a b (next (n + 1)))) (omega arith) h.1.1 in
    let q : length a ≡ length b = omega arith in
    let rest = carry_adds v (n + 1 + 1) a b (next (n + 1)) q g in
    omega arith

pub carry_wired : (n : ℕ) (a b : List Literal) (c : Literal) → WithinVars n a → WithinVars n b → c.var ≤ n → Wired n (carry_gates n a b c)
carry_wired n [] b c wa wb wc = tt
carry_wired n (x ∷ a) [] c wa wb wc = tt
carry_wired n (x ∷ a) (y ∷ b) c wa wb wc =
    let rest = carry_wired (n + 1 + 1) a b (next (n + 1)) (within_more n (n + 1 + 1) a (omega arith) wa.1) (within_more n (n + 1 + 1) b (omega arith) wb.1) (omega arith) in
    ((wa.0, (wb.0, (wc, tt))), ((omega arith, (omega arith, (omega arith, tt))), subst (λ (k : ℕ). Wired k (carry_gates (n + 1 + 1) a b (next (n + 1)))) (omega arith) rest))

pub length-carry : (n : ℕ) (a b : List Literal) (c : Literal) → length a ≡ length b → length (carry_gates n a b c) ≡ 2 * length a
length-carry n [] b c e = omega arith
length-carry n (x ∷ a) [] c e = absurd (omega arith)
length-carry n (x ∷ a) (y ∷ b) c e = let h = length-carry (n + 1 + 1) a b (next (n + 1)) (omega arith) in omega arith

pub carry_outs_within : (n m : ℕ) (a : List Literal) (c : Literal) → n + 2 * length a ≤ m → c.var ≤ m → WithinVars m (carry_outs n a c)
carry_outs_within n m [] c h k = (k, tt)
carry_outs_within n m (x ∷ a) c h k = (omega arith, carry_outs_within (n + 1 + 1) m a (next (n + 1)) (omega arith) (omega arith))

-- sums that wrap
wraps_step : (s k x y c wa wb r l : ℕ) → s + 2 * k ≡ x + y + c → Wraps r (2 ^ l) (wa + wb + k) → Wraps (s + 2 * r) (2 ^ suc l) (x + 2 * wa + (y + 2 * wb) + c)
wraps_step s k x y c wa wb r l one rest =
    record { times = rest.times; total = (let e : rest.times * 2 ^ suc l ≡ 2 * (rest.times * 2 ^ l) = rw (pow-succ' 2 l) (omega arith) in let t = rest.total in omega arith) }

pub wrap_adds : (v : ℕ → Bool) (n : ℕ) (a b : List Literal) (c : Literal) → 0 < length a → length a ≡ length b → Holds v n (wrap_gates n a b c) → Wraps (word_value v (wrap_outs n a)) (2 ^ length a) (word_value v a + word_value v b + digit (lit_value v c))
wrap_adds v n [] b c l e h = absurd (omega arith)
wrap_adds v n (x ∷ a) [] c l e h = absurd (omega arith)
wrap_adds v n (x ∷ []) (y ∷ u ∷ b) c l e h = absurd (omega arith)
wrap_adds v n (x ∷ []) (y ∷ []) c l e h =
    let d = add1_digits (v (n + 1)) (majority_of (lit_value v x) (lit_value v y) (lit_value v c)) (lit_value v x) (lit_value v y) (lit_value v c) h.0 refl in
    record { times = digit (majority_of (lit_value v x) (lit_value v y) (lit_value v c)); total = omega arith }
wrap_adds v n (x ∷ z ∷ a) (y ∷ b) c l e h =
    let d = add1_digits (v (n + 1)) (v (n + 1 + 1)) (lit_value v x) (lit_value v y) (lit_value v c) h.0 h.1.0 in
    let g : Holds v (n + 1 + 1) (wrap_gates (n + 1 + 1) (z ∷ a) b (next (n + 1))) = subst (λ (k : ℕ). Holds v k (wrap_gates (n + 1 + 1) (z ∷ a) b (next (n + 1)))) (omega arith) h.1.1 in
    let pos : 0 < length (z ∷ a) = omega arith in
    let q : length (z ∷ a) ≡ length b = omega arith in
    let rest = wrap_adds v (n + 1 + 1) (z ∷ a) b (next (n + 1)) pos q g in
    wraps_step (digit (v (n + 1))) (digit (v (n + 1 + 1))) (digit (lit_value v x)) (digit (lit_value v y)) (digit (lit_value v c)) (word_value v (z ∷ a)) (word_value v b) (word_value v (wrap_outs (n + 1 + 1) (z ∷ a))) (length (z ∷ a)) d rest

pub wrap_wired : (n : ℕ) (a b : List Literal) (c : Literal) → WithinVars n a → WithinVars n b → c.var ≤ n → Wired n (wrap_gates n a b c)
wrap_wired n [] b c wa wb wc = tt
wrap_wired n (x ∷ []) [] c wa wb wc = tt
wrap_wired n (x ∷ z ∷ a) [] c wa wb wc = tt
wrap_wired n (x ∷ []) (y ∷ b) c wa wb wc = ((wa.0, (wb.0, (wc, tt))), tt)
wrap_wired n (x ∷ z ∷ a) (y ∷ b) c wa wb wc =
    let rest = wrap_wired (n + 1 + 1) (z ∷ a) b (next (n + 1)) (within_more n (n + 1 + 1) (z ∷ a) (omega arith) wa.1) (within_more n (n + 1 + 1) b (omega arith) wb.1) (omega arith) in
    ((wa.0, (wb.0, (wc, tt))), ((omega arith, (omega arith, (omega arith, tt))), subst (λ (k : ℕ). Wired k (wrap_gates (n + 1 + 1) (z ∷ a) b (next (n + 1)))) (omega arith) rest))

pub length-wrap : (n : ℕ) (x : Literal) (a b : List Literal) (c : Literal) → length (x ∷ a) ≡ length b → length (wrap_gates n (x ∷ a) b c) ≡ 2 * length a + 1
length-wrap n x a [] c e = absurd (omega arith)
length-wrap n x [] (y ∷ b) c e = omega arith
length-wrap n x (z ∷ a) (y ∷ b) c e = let h = length-wrap (n + 1 + 1) z a b (next (n + 1)) (omega arith) in omega arith

pub wrap_outs_within : (n m : ℕ) (a : List Literal) → n + 2 * length a ≤ m + 1 → WithinVars m (wrap_outs n a)
wrap_outs_within n m [] h = tt
wrap_outs_within n m (x ∷ a) h = (omega arith, wrap_outs_within (n + 1 + 1) m a (omega arith))

pub length-wrap_outs : (n : ℕ) (a : List Literal) → length (wrap_outs n a) ≡ length a
length-wrap_outs n [] = refl
length-wrap_outs n (x ∷ a) = let h = length-wrap_outs (n + 1 + 1) a in omega arith
