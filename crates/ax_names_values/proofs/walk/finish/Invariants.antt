use Rattle.std.proofs.Common.{◌≡◌, length}
use Rattle.ax_names_values.specs.Steps.{finished}
use Rattle.ax_names_values.proofs.walk.finish.Given as goal

abbrev pub invariant-loop-step : goal.invariant-loop-step
invariant-loop-step l = finished l.structs l.steps l.verdict ≡ finished l.structs l.initial.steps l.initial.verdict

abbrev pub decreases-loop-step : goal.decreases-loop-step
decreases-loop-step l = length l.steps
