-- What satisfied blocks of adders and comparisons say.
use Rattle.std.proofs.Common.{◌≡◌, ℕ, suc, ◌+◌, ◌*◌, ◌^◌, ◌%◌, ◌≤◌, ◌<◌, Bool, true, false, List, [], ◌∷◌, ◌++◌, length, cond, nat_eq, refl, ap, sym, subst, ◌∙◌, arith, append-nil}
use Rattle.std.specs.Prelude.{int_lt}
use Rattle.ax_proof.specs.Literal.{Literal, literal, IsOver}
use Rattle.ax_proof.specs.Assignment.{lit_value, satisfies}
use Rattle.ax_gates.specs.Gates.{Gate, differ, none, next, block, blocks}
use Rattle.ax_gates.specs.Words.{digit, word_value, fresh, xor_gates, lit_true, Extends}
use Rattle.ax_gates.proofs.Circuits.{over_within, blocks_hold, wired_extends, blocks-append}
use Rattle.ax_gates.proofs.WordLaws.{length-pairwise}
use Rattle.ax_gates.proofs.Values.{word_value-lt, wraps_mod}
use Rattle.ax_gates_adders.specs.Adders.{carry_gates, wrap_gates, wrap_outs, sum_gates, sum_outs, equal_gates, less_gates, signed_value}
use Rattle.ax_gates_adders.proofs.Additions.{carry_adds, carry_wired, wrap_adds, wrap_wired, length-wrap_outs}
use Rattle.ax_gates_adders.proofs.Compares.{equal_adds, equal_wired, flip_top, flip_value, less_carries, less_wired}
use Rattle.ax_gates_adders.proofs.Signs.{bool_lt, less_tie}

pub sum_law : (v : ℕ → Bool) (n : ℕ) (a b : List Literal) (c : Literal) (out : Bool) → 0 < length a → length a ≡ length b → satisfies v (blocks n (sum_gates out n a b c)) ≡ true
    → word_value v (sum_outs out n a c) ≡ cond out (word_value v a + word_value v b + digit (lit_value v c)) ((word_value v a + word_value v b + digit (lit_value v c)) % 2 ^ length a)
sum_law v n a b c true p l h = carry_adds v n a b c l (blocks_hold v n (carry_gates n a b c) h)
sum_law v n a b c false p l h =
    let small : word_value v (wrap_outs n a) < 2 ^ length a = subst (λ (k : ℕ). word_value v (wrap_outs n a) < 2 ^ k) (length-wrap_outs n a) (word_value-lt v (wrap_outs n a)) in
    wraps_mod (word_value v (wrap_outs n a)) (2 ^ length a) (word_value v a + word_value v b + digit (lit_value v c)) small (wrap_adds v n a b c p l (blocks_hold v n (wrap_gates n a b c) h))

pub sum_extends : (n : ℕ) (a b : List Literal) (c : Literal) (out : Bool) → IsOver n a → IsOver n b → c.var ≤ n → Extends n (blocks n (sum_gates out n a b c))
sum_extends n a b c true oa ob wc = wired_extends n (carry_gates n a b c) (carry_wired n a b c (over_within n a oa) (over_within n b ob) wc)
sum_extends n a b c false oa ob wc = wired_extends n (wrap_gates n a b c) (wrap_wired n a b c (over_within n a oa) (over_within n b ob) wc)

pub equal_blocks : (n : ℕ) (a b : List Literal) → length a ≡ length b → blocks n (equal_gates n a b) ≡ blocks n (xor_gates a b) ++ block (next (n + length a)) (none (fresh n a))
equal_blocks n a b l =
    let lp = length-pairwise differ a b l in
    blocks-append n (n + length a) (xor_gates a b) (none (fresh n a) ∷ []) (omega arith)
    ∙ ap (λ (cs : List (List Literal)). blocks n (xor_gates a b) ++ cs) (append-nil (block (next (n + length a)) (none (fresh n a))))

pub equal_law : (v : ℕ → Bool) (n : ℕ) (a b : List Literal) → length a ≡ length b → satisfies v (blocks n (equal_gates n a b)) ≡ true → lit_value v (next (n + length a)) ≡ nat_eq (word_value v a) (word_value v b)
equal_law v n a b l h = equal_adds v n a b l (blocks_hold v n (equal_gates n a b) h)

pub equal_extends : (n : ℕ) (a b : List Literal) → length a ≡ length b → IsOver n a → IsOver n b → Extends n (blocks n (equal_gates n a b))
equal_extends n a b l oa ob = wired_extends n (equal_gates n a b) (equal_wired n a b l (over_within n a oa) (over_within n b ob))

bits_32 : (v : ℕ → Bool) (a : List Literal) → length a ≡ 32 → word_value v a < 2 ^ 32
bits_32 v a l = subst (λ (k : ℕ). word_value v a < 2 ^ k) l (word_value-lt v a)

pub less_law : (v : ℕ → Bool) (n : ℕ) (a b : List Literal) → length a ≡ 32 → length b ≡ 32 → lit_value v lit_true ≡ true → satisfies v (blocks n (less_gates n a b lit_true)) ≡ true
    → lit_value v (literal (n + 32) false) ≡ int_lt (signed_value v a) (signed_value v b)
less_law v n a b la lb e1 h =
    let c = less_carries v n a b e1 (omega arith) (la ∙ sym lb) (blocks_hold v n (less_gates n a b lit_true) h) in
    let same : lit_value v (literal (n + length a) false) ≡ lit_value v (literal (n + 32) false) = ap (λ (k : ℕ). lit_value v (literal (n + k) false)) la in
    let tie = less_tie (word_value v a) (word_value v b) (word_value v (flip_top a)) (word_value v (flip_top b)) (bits_32 v a la) (bits_32 v b lb) (flip_value v 31 a la) (flip_value v 31 b lb) in
    sym same ∙ (bool_lt (lit_value v (literal (n + length a) false)) (word_value v (flip_top a)) (word_value v (flip_top b)) c.0 c.1 ∙ sym tie)

pub less_extends : (n : ℕ) (a b : List Literal) → 1 ≤ n → IsOver n a → IsOver n b → Extends n (blocks n (less_gates n a b lit_true))
less_extends n a b low oa ob = wired_extends n (less_gates n a b lit_true) (less_wired n a b lit_true (over_within n a oa) (over_within n b ob) low)
