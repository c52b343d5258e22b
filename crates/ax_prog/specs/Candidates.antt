-- Slots by their numbers, and candidates: the slots whose trees are small enough to be repaired.
use Rattle.std.specs.Prelude.{ℕ, ◌+◌, nat_le, Bool, if◌then◌else◌, List, [], ◌∷◌, Option, slice_get}
use Rattle.std.specs.Option.{option_map}
use Rattle.ax_prog.specs.declared.Expr.{Expr}
use Rattle.ax_prog.specs.declared.Slot.{Slot}
use Rattle.ax_prog.specs.declared.SlotId.{SlotId}
use Rattle.ax_prog.specs.declared.Program.{Program}
use Rattle.ax_prog.specs.Nodes.{nodes}

abbrev pub slot_at : Program → SlotId → Option Slot
slot_at program id = slice_get program.slots id.0

abbrev pub tree_at : Program → SlotId → Option Expr
tree_at program id = option_map (λ slot. slot.expr) (slot_at program id)

-- a tree of at most 31 nodes
abbrev pub is_small : Expr → Bool
is_small tree = nat_le (nodes tree) 31

-- the numbers of the small slots in source order, where the first slot has the given number
abbrev pub candidates_from : ℕ → List Slot → List SlotId
candidates_from at [] = []
candidates_from at (slot ∷ rest) =
    if is_small slot.expr then (record { 0 = at }) ∷ candidates_from (at + 1) rest else candidates_from (at + 1) rest

abbrev pub candidates_of : Program → List SlotId
candidates_of program = candidates_from 0 program.slots
