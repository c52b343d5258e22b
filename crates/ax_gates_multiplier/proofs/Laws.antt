-- What satisfied blocks of products say.
use Rattle.std.proofs.Common.{◌≡◌, ℕ, ◌*◌, ◌^◌, ◌%◌, ◌≤◌, ◌<◌, Bool, true, List, length}
use Rattle.ax_proof.specs.Literal.{Literal, IsOver}
use Rattle.ax_proof.specs.Assignment.{lit_value, satisfies}
use Rattle.ax_gates.specs.Gates.{blocks}
use Rattle.ax_gates.specs.Words.{word_value, lit_true, Extends}
use Rattle.ax_gates.proofs.Circuits.{over_within, blocks_hold, wired_extends}
use Rattle.ax_gates_multiplier.specs.Products.{prod_gates, prod_outs}
use Rattle.ax_gates_multiplier.proofs.RowLaws.{prod_adds, prod_wired}

pub prod_law : (v : ℕ → Bool) (n : ℕ) (a b : List Literal) → 0 < length a → length a ≡ length b → lit_value v lit_true ≡ true → satisfies v (blocks n (prod_gates n a b)) ≡ true
    → word_value v (prod_outs n a b) ≡ (word_value v a * word_value v b) % 2 ^ length a
prod_law v n a b l e e1 h = prod_adds v n a b e1 l e (blocks_hold v n (prod_gates n a b) h)

pub prod_extends : (n : ℕ) (a b : List Literal) → length a ≡ length b → 1 ≤ n → IsOver n a → IsOver n b → Extends n (blocks n (prod_gates n a b))
prod_extends n a b e low oa ob = wired_extends n (prod_gates n a b) (prod_wired n a b low e (over_within n a oa) (over_within n b ob))
