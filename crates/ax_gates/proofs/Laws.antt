-- What a satisfied block says of its literals.
use Rattle.std.proofs.Common.{◌≡◌, ◌↔◌, ℕ, ◌+◌, ◌*◌, Bool, true, false, not, ◌&&◌, List, cond, refl, sym, ◌∙◌, arith}
use Rattle.std.proofs.lemmas.Bool.{and_parts, and_from}
use Rattle.ax_proof.specs.Literal.{Literal}
use Rattle.ax_proof.specs.Assignment.{lit_value, clause_true, satisfies}
use Rattle.ax_gates.specs.Gates.{Gate, both, differ, choose, parity, majority, none, gate_value, block, add1_block, xor_of, majority_of}
use Rattle.ax_gates.specs.Words.{digit}
use Rattle.ax_gates.proofs.GateLaws.{satisfies-append, same_sign-true, same_sign-from, add1_digits}
use Rattle.ax_gates.proofs.Circuits.{block_means}

pub block_law : (v : ℕ → Bool) (z : Literal) (g : Gate) → (satisfies v (block z g) ≡ true) ↔ (lit_value v z ≡ gate_value v z g)
block_law v z g = (
  (λ h. same_sign-true _ _ (sym (block_means v z g) ∙ h)),
  (λ h. block_means v z g ∙ same_sign-from _ _ h),
)

pub and_gate_law : (v : ℕ → Bool) (z a b : Literal) → (satisfies v (block z (both a b)) ≡ true) ↔ (lit_value v z ≡ (lit_value v a && lit_value v b))
and_gate_law v z a b = block_law v z (both a b)

pub xor_gate_law : (v : ℕ → Bool) (z a b : Literal) → (satisfies v (block z (differ a b)) ≡ true) ↔ (lit_value v z ≡ xor_of (lit_value v a) (lit_value v b))
xor_gate_law v z a b = block_law v z (differ a b)

pub mux_law : (v : ℕ → Bool) (z f a b : Literal) → (satisfies v (block z (choose f a b)) ≡ true) ↔ (lit_value v z ≡ cond (lit_value v f) (lit_value v a) (lit_value v b))
mux_law v z f a b = block_law v z (choose f a b)

pub parity_gate_law : (v : ℕ → Bool) (z a b c : Literal) → (satisfies v (block z (parity a b c)) ≡ true) ↔ (lit_value v z ≡ xor_of (lit_value v a) (xor_of (lit_value v b) (lit_value v c)))
parity_gate_law v z a b c = block_law v z (parity a b c)

pub maj_law : (v : ℕ → Bool) (z a b c : Literal) → (satisfies v (block z (majority a b c)) ≡ true) ↔ (lit_value v z ≡ majority_of (lit_value v a) (lit_value v b) (lit_value v c))
maj_law v z a b c = block_law v z (majority a b c)

pub none_gate_law : (v : ℕ → Bool) (z : Literal) (xs : List Literal) → (satisfies v (block z (none xs)) ≡ true) ↔ (lit_value v z ≡ not (clause_true v xs))
none_gate_law v z xs = block_law v z (none xs)

digits_add1 : (s k a b c : Bool) → digit s + 2 * digit k ≡ digit a + digit b + digit c → (s ≡ xor_of a (xor_of b c)) × (k ≡ majority_of a b c)
digits_add1 true true true true true e = (refl, refl)
digits_add1 true true true true false e = absurd (omega arith)
digits_add1 true true true false true e = absurd (omega arith)
digits_add1 true true true false false e = absurd (omega arith)
digits_add1 true true false true true e = absurd (omega arith)
digits_add1 true true false true false e = absurd (omega arith)
digits_add1 true true false false true e = absurd (omega arith)
digits_add1 true true false false false e = absurd (omega arith)
digits_add1 true false true true true e = absurd (omega arith)
digits_add1 true false true true false e = absurd (omega arith)
digits_add1 true false true false true e = absurd (omega arith)
digits_add1 true false true false false e = (refl, refl)
digits_add1 true false false true true e = absurd (omega arith)
digits_add1 true false false true false e = (refl, refl)
digits_add1 true false false false true e = (refl, refl)
digits_add1 true false false false false e = absurd (omega arith)
digits_add1 false true true true true e = absurd (omega arith)
digits_add1 false true true true false e = (refl, refl)
digits_add1 false true true false true e = (refl, refl)
digits_add1 false true true false false e = absurd (omega arith)
digits_add1 false true false true true e = (refl, refl)
digits_add1 false true false true false e = absurd (omega arith)
digits_add1 false true false false true e = absurd (omega arith)
digits_add1 false true false false false e = absurd (omega arith)
digits_add1 false false true true true e = absurd (omega arith)
digits_add1 false false true true false e = absurd (omega arith)
digits_add1 false false true false true e = absurd (omega arith)
digits_add1 false false true false false e = absurd (omega arith)
digits_add1 false false false true true e = absurd (omega arith)
digits_add1 false false false true false e = absurd (omega arith)
digits_add1 false false false false true e = absurd (omega arith)
digits_add1 false false false false false e = (refl, refl)

pub add1_law : (v : ℕ → Bool) (s k a b c : Literal) → (satisfies v (add1_block s k a b c) ≡ true) ↔ (digit (lit_value v s) + 2 * digit (lit_value v k) ≡ digit (lit_value v a) + digit (lit_value v b) + digit (lit_value v c))
add1_law v s k a b c = (
  (λ h. let p = and_parts (satisfies v (block s (parity a b c))) (satisfies v (block k (majority a b c))) (sym (satisfies-append v (block s (parity a b c)) (block k (majority a b c))) ∙ h) in
      add1_digits (lit_value v s) (lit_value v k) (lit_value v a) (lit_value v b) (lit_value v c) ((parity_gate_law v s a b c).0 p.0) ((maj_law v k a b c).0 p.1)),
  (λ e. let p = digits_add1 (lit_value v s) (lit_value v k) (lit_value v a) (lit_value v b) (lit_value v c) e in
      satisfies-append v (block s (parity a b c)) (block k (majority a b c)) ∙ and_from _ _ ((parity_gate_law v s a b c).1 p.0) ((maj_law v k a b c).1 p.1)),
)
