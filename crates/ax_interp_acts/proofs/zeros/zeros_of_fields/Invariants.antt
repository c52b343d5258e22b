use Rattle.std.proofs.Common.{◌≡◌, ◌++◌, drop}
use Rattle.ax_meaning.specs.Runs.{zeros_of_fields}
use Rattle.ax_interp_acts.proofs.zeros.zeros_of_fields.Given as goal

abbrev pub invariant-loop-field : goal.invariant-loop-field
invariant-loop-field l = l.all ++ zeros_of_fields l.structs (drop l.field-index l.fields) ≡ zeros_of_fields l.structs l.fields
