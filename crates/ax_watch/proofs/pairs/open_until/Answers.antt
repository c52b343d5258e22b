use Rattle.std.proofs.Common.{arith}
use Rattle.ax_proof.specs.Literal.{negation}
use Rattle.ax_watch.proofs.Reaching.{not_before}
use Rattle.ax_watch.proofs.pairs.open_until.Goals as goal

pub returns-then-eq : goal.returns-then-eq
returns-then-eq c = not_before _ c.unwrap_or-at.result (negation c.args.lit) c.lits-lits.ensures.trail.once (rw c.lits-lits.ensures.value at c.if-at-lits.true) (grind arith)
