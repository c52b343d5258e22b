use Rattle.std.proofs.Common.{◌≡◌, length}
use Rattle.ax_outside.specs.Files.{AllLieIn, files_of}
use Rattle.ax_outside.specs.Memory.{kept_in}
use Rattle.ax_outside.proofs.files.find.Given as goal

abbrev pub invariant-loop-rest : goal.invariant-loop-rest
invariant-loop-rest l = AllLieIn (length l.log) l.rest × (kept_in (files_of l.log l.rest) l.name ≡ kept_in (files_of l.log l.fn.files) l.name)

abbrev pub decreases-loop-rest : goal.decreases-loop-rest
decreases-loop-rest l = length l.rest
