use Rattle.std.proofs.Common.{◌≡◌, length}
use Rattle.ax_names_rules.specs.States.{leaving}
use Rattle.ax_names_given.proofs.states.leave.Given as goal

abbrev pub invariant-loop-st : goal.invariant-loop-st
invariant-loop-st l = leaving l.depth l.st ≡ leaving l.depth l.initial.st

abbrev pub decreases-loop-st : goal.decreases-loop-st
decreases-loop-st l = length l.st.names
