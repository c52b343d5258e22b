use Rattle.std.specs.Prelude.{IfSome}
use Rattle.ax_sat.specs.Levels.{IsDenied}
use Rattle.ax_sat.proofs.levels.last_denied.Given as goal

abbrev pub invariant-loop-lit : goal.invariant-loop-lit
invariant-loop-lit l = IfSome l.last (λ place. IsDenied l.watch.trail l.line l.start place)
