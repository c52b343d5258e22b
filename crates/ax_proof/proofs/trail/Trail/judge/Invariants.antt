use Rattle.std.proofs.Common.{take}
use Rattle.ax_proof.proofs.Judgements.{IsFalseBut}
use Rattle.ax_proof.proofs.trail.Trail.judge.Given as goal

abbrev pub invariant-loop-lit : goal.invariant-loop-lit
invariant-loop-lit l = IsFalseBut l.self.lits (take l.lit-index l.lits) l.unit
