use Rattle.std.proofs.Common.{take}
use Rattle.std.specs.List.{Contains}
use Rattle.ax_proof.specs.Literal.{Literal, negation}
use Rattle.ax_sat.specs.Analysis.{FoundIn, IsFrom}
use Rattle.ax_sat.proofs.analysis.collect.Given as goal

abbrev pub invariant-loop-x : goal.invariant-loop-x
invariant-loop-x l = record {
  found : FoundIn l.trail l.marks.on (take l.x-index l.marks.touched) l.others.items l.first;
  before : (m : Literal) → Contains l.others.items m → Contains (take l.start l.trail) (negation m);
  from : IsFrom l.trail l.start l.first;
}
