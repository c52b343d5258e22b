use Rattle.std.proofs.Common.{take}
use Rattle.ax_watch.specs.Watched.{IsFalseElse}
use Rattle.ax_watch.proofs.watched.replacement.Given as goal

abbrev pub invariant-loop-lit : goal.invariant-loop-lit
invariant-loop-lit l = IsFalseElse l.trail.lits (take l.lit-index l.clause) l.other
