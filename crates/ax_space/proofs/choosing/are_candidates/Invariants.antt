use Rattle.std.proofs.Common.{take}
use Rattle.std.specs.List.{Contains}
use Rattle.ax_prog.specs.declared.SlotId.{SlotId}
use Rattle.ax_prog.specs.Candidates.{candidates_of}
use Rattle.ax_space.proofs.choosing.are_candidates.Given as goal

abbrev pub invariant-loop-id : goal.invariant-loop-id
invariant-loop-id l = (id : SlotId) → Contains (take l.id-index l.chosen) id → Contains (candidates_of l.program) id
