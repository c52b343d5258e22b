use Rattle.std.proofs.Common.{take}
use Rattle.ax_proof.specs.Literal.{IsOver}
use Rattle.ax_watch.proofs.watch.Watch.covers.Given as goal

abbrev pub invariant-loop-lit : goal.invariant-loop-lit
invariant-loop-lit l = IsOver l.vars (take l.lit-index l.clause)
