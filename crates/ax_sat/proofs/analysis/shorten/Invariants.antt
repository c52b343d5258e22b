use Rattle.std.proofs.Common.{◌≡◌, length}
use Rattle.ax_sat.specs.Analysis.{Suffices}
use Rattle.ax_sat.proofs.analysis.shorten.Given as goal

abbrev pub invariant-loop-index : goal.invariant-loop-index
invariant-loop-index l = record {
  size : length l.marks.on ≡ length l.initial.marks.on;
  suffices : Suffices l.watch.clauses l.watch.trail l.marks.on;
}
