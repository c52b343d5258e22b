use Rattle.std.proofs.Common.{◌≡◌, drop}
use Rattle.ax_interp_acts.specs.Within.{with_members}
use Rattle.ax_interp_acts.proofs.zeros.need_members.Given as goal

abbrev pub invariant-loop-field : goal.invariant-loop-field
invariant-loop-field l = with_members (drop l.field-index l.fields) l.marks ≡ with_members l.fields l.fn.marks
