use Rattle.std.proofs.Common.{◌≡◌, ◌≤◌}
use Rattle.ax_sat.specs.Levels.{Asks}
use Rattle.ax_sat.proofs.levels.ask.Given as goal

abbrev pub invariant-loop-index : goal.invariant-loop-index
invariant-loop-index l = record {
  watch : l.watch ≡ l.fn.watch;
  marks : l.marks ≡ l.fn.marks;
  starts : l.levels.starts.items ≡ l.fn.levels.starts.items;
  asks : Asks l.assumptions l.fn.watch.trail l.fn.levels.starts.items l.levels.roots l.levels.asked;
  next : l.index ≤ l.levels.asked;
}
