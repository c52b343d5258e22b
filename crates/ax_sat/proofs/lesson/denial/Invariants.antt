use Rattle.std.proofs.Common.{◌≡◌, take}
use Rattle.ax_sat.specs.Levels.{denials}
use Rattle.ax_sat.proofs.lesson.denial.Given as goal

abbrev pub invariant-loop-start : goal.invariant-loop-start
invariant-loop-start l = l.denied.items ≡ denials l.watch.trail (take l.start-index l.starts)
