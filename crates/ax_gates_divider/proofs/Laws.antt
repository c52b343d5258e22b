-- What satisfied blocks of divisions say.
use Rattle.std.proofs.Common.{◌≡◌, ℕ, zero, suc, ◌/◌, ◌%◌, ◌≤◌, Bool, true, List, length, refl, ap, sym, ◌∙◌, arith}
use Rattle.std.proofs.lemmas.Nat.{div-mul-add, mod-mul-add}
use Rattle.ax_proof.specs.Literal.{Literal, IsOver}
use Rattle.ax_proof.specs.Assignment.{lit_value, satisfies}
use Rattle.ax_gates.specs.Gates.{blocks}
use Rattle.ax_gates.specs.Words.{word_value, lit_true, Extends}
use Rattle.ax_gates.proofs.Circuits.{over_within, blocks_hold, wired_extends}
use Rattle.ax_gates_divider.specs.Divisions.{division, quotient_of, remainder_of}
use Rattle.ax_gates_divider.proofs.TurnLaws.{Divides}
use Rattle.ax_gates_divider.proofs.DivisionLaws.{division_divides, division_wired}

divides_quotient : (k b h q r : ℕ) → Divides k b h q r → q ≡ quotient_of k h b
divides_quotient k zero h q r d = let o = d.ones refl in omega arith
divides_quotient k (suc b) h q r d = sym (ap (λ (z : ℕ). z / suc b) (sym (d.exact (omega arith))) ∙ div-mul-add q (suc b) r (d.below (omega arith)))

divides_remainder : (k b h q r : ℕ) → Divides k b h q r → r ≡ remainder_of h b
divides_remainder k zero h q r d = d.whole refl
divides_remainder k (suc b) h q r d = sym (ap (λ (z : ℕ). z % suc b) (sym (d.exact (omega arith))) ∙ mod-mul-add q (suc b) r (d.below (omega arith)))

pub quotient_law : (v : ℕ → Bool) (n : ℕ) (a b : List Literal) → length a ≡ length b → lit_value v lit_true ≡ true → satisfies v (blocks n (division n a b).gates) ≡ true
    → word_value v (division n a b).quotient ≡ quotient_of (length a) (word_value v a) (word_value v b)
quotient_law v n a b l e1 h = divides_quotient _ _ _ _ _ (division_divides v n a b e1 (omega arith) (blocks_hold v n (division n a b).gates h))

pub remainder_law : (v : ℕ → Bool) (n : ℕ) (a b : List Literal) → length a ≡ length b → lit_value v lit_true ≡ true → satisfies v (blocks n (division n a b).gates) ≡ true
    → word_value v (division n a b).remainder ≡ remainder_of (word_value v a) (word_value v b)
remainder_law v n a b l e1 h = divides_remainder _ _ _ _ _ (division_divides v n a b e1 (omega arith) (blocks_hold v n (division n a b).gates h))

pub division_extends : (n : ℕ) (a b : List Literal) → 1 ≤ n → IsOver n a → IsOver n b → Extends n (blocks n (division n a b).gates)
division_extends n a b low oa ob = wired_extends n (division n a b).gates (division_wired n a b low (over_within n a oa) (over_within n b ob))
