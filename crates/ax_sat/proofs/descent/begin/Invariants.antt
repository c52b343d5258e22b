use Rattle.std.proofs.Common.{◌≡◌, take}
use Rattle.std.specs.List.{Contains}
use Rattle.ax_proof.specs.Literal.{Literal, negation, IsOver}
use Rattle.ax_sat.specs.Search.{Descends}
use Rattle.ax_sat.proofs.descent.begin.Given as goal

abbrev pub invariant-loop-lit : goal.invariant-loop-lit
invariant-loop-lit l = record {
  kept : l.watch ≡ record l.fn.watch { trail = l.watch.trail; reasons = l.watch.reasons };
  descends : Descends l.fn.watch.clauses (take l.lit-index l.assumptions) l.watch.trail l.denied.items;
  over : IsOver l.fn.watch.vars l.denied.items;
  from : (m : Literal) → Contains l.denied.items m → Contains l.assumptions (negation m);
}
