use Rattle.std.proofs.Common.{◌≡◌, ◌++◌, drop}
use Rattle.ax_prog.specs.Candidates.{candidates_from}
use Rattle.ax_prog.proofs.Program.candidates.Given as goal

abbrev pub invariant-loop-slot : goal.invariant-loop-slot
invariant-loop-slot l = (l.at ≡ l.slot-index) × (l.ids ++ candidates_from l.slot-index (drop l.slot-index l.slot-items) ≡ candidates_from 0 l.slot-items)
