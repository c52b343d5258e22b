use Rattle.std.proofs.Common.{arith, length, ap, ◌∙◌, ◌≡◌, ◌-◌}
use Rattle.std.proofs.lemmas.List.{length-take-le}
use Rattle.ax_proof.proofs.Tables.{popped}
use Rattle.ax_proof.proofs.trail.Trail.back.Goals as goal

pub loop-self-preserved : goal.loop-self-preserved
loop-self-preserved c =
    let shorter : length c.pop.new.self.lits ≡ length c.loop-self.self.lits - 1 =
    ap length c.pop.ensures.lits ∙ length-take-le (length c.loop-self.self.lits - 1) c.loop-self.self.lits (omega arith)
    in
    let seen : length c.lits.result.now ≡ length c.loop-self.self.lits = ap length c.lits.ensures.value in
    record {
      size = c.pop.ensures.size ∙ c.loop-self.invariant.size;
      lits = popped _ _ _ c.loop-self.invariant.lits c.pop.ensures.lits;
      reasons = popped _ _ _ c.loop-self.invariant.reasons c.pop.ensures.reasons;
      low = omega arith;
    }
