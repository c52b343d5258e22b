use Rattle.std.proofs.Common.{take}
use Rattle.ax_sat.specs.Marks.{MarksMore}
use Rattle.ax_sat.specs.Analysis.{AreIn}
use Rattle.ax_sat.proofs.analysis.mark.Given as goal

abbrev pub invariant-loop-lit : goal.invariant-loop-lit
invariant-loop-lit l = record {
  more : MarksMore l.initial.marks.on l.marks.on;
  marked : AreIn l.watch.trail l.marks.on l.except (take l.lit-index l.lits);
}
