use Rattle.ax_proof.proofs.Denials.{denial_open, denial_below}
use Rattle.ax_proof.proofs.propagation.deny.Goals as goal

pub push-requires-clause-open : goal.push-requires-clause-open
push-requires-clause-open c =
    let here = rw c.lits-lit-items.ensures.value at c.lit-item.is in
    let within = rw c.lits-lit-items.ensures.value at c.loop-lit-test.true in
    rw c.negate.ensures (denial_open _ c.loop-lit.lit-index c.lit-item.result within here _ c.lits-lit-items.ensures.rising c.loop-lit.invariant.lits)

pub push-requires-clause-within : goal.push-requires-clause-within
push-requires-clause-within c =
    let here = rw c.lits-lit-items.ensures.value at c.lit-item.is in
    let within = rw c.lits-lit-items.ensures.value at c.loop-lit-test.true in
    rw c.negate.ensures (denial_below _ c.loop-lit.lit-index c.lit-item.result within here _ _ c.loop-lit.invariant.size c.requires.below)
