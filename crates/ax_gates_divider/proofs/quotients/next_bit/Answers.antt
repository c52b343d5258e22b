use Rattle.std.proofs.Common.{◌≡◌, ◌+◌, ◌*◌, ◌∷◌, length, take, ◌∙◌, arith}
use Rattle.std.proofs.lemmas.Result.{IfOk-weaker}
use Rattle.ax_gates.specs.Words.{fresh, lit_true}
use Rattle.ax_gates_adders.specs.Adders.{carry_outs}
use Rattle.ax_gates_divider.proofs.TurnLaws.{fresh_same}
use Rattle.ax_gates_divider.proofs.Steps.{length_low}
use Rattle.ax_gates_divider.proofs.quotients.next_bit.Goals as goal

pub returns-clause-left : goal.returns-clause-left
returns-clause-left c =
    let n = c.args.cnf.now.vars in
    let bit = c.args.bit in
    let r = c.args.remainder.now in
    let word = c.deref.result.now in
    let wide : word ≡ bit ∷ r = cc (c.in_ok-wide.ensures, c.deref.ensures.value) in
    let place : n + 2 * length (bit ∷ r) ≡ n + 2 * (length r + 1) = omega arith in
    let same = fresh_same (n + 2 * length (bit ∷ r)) (take (length r) (carry_outs n (bit ∷ r) lit_true)) r (length_low n (length r) (bit ∷ r) lit_true (omega arith)) in
    let new : fresh (n + 2 * length word) (take (length r) (carry_outs n word lit_true)) ≡ fresh (n + 2 * (length r + 1)) r = cc in
    IfOk-weaker c.subtract.result _ _ (λ p q. q ∙ new) c.subtract.ensures.left
