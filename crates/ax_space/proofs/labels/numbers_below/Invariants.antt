use Rattle.ax_space.specs.Rows.{IsPart}
use Rattle.ax_space.specs.Labels.{IsNumberBelow}
use Rattle.ax_space.proofs.labels.numbers_below.Given as goal

abbrev pub invariant-loop-number : goal.invariant-loop-number
invariant-loop-number l = IsPart (IsNumberBelow l.number) l.all
