-- What a space is the space of.
use Rattle.std.specs.Prelude.{◌≡◌, ℕ, ◌<◌, ◌≤◌, List, [], ◌∷◌, length, Contains, AllPairs, Option, Some, None}
use Rattle.std.specs.List.{All}
use Rattle.ax_prog.specs.declared.Sets.{Sets}
use Rattle.ax_prog.specs.declared.Slot.{Slot}
use Rattle.ax_prog.specs.declared.SlotId.{SlotId}
use Rattle.ax_prog.specs.declared.Program.{Program}
use Rattle.ax_prog.specs.Candidates.{slot_at, candidates_of}
use Rattle.ax_prog.specs.Nodes.{nodes}
use Rattle.ax_prog.specs.Substitution.{FitsSlot}

-- the chosen expressions by the numbers of their slots, those slots, the chosen sets and the growth
pub record Chosen : Type 0 where
  pub ids : List SlotId
  pub slots : List Slot
  pub sets : Sets
  pub grow : ℕ

abbrev pub with_slot : Option Slot → List Slot → List Slot
with_slot None slots = slots
with_slot (Some slot) slots = slot ∷ slots

-- the slots of these numbers
abbrev pub slots_of : Program → List SlotId → List Slot
slots_of program [] = []
slots_of program (id ∷ ids) = with_slot (slot_at program id) (slots_of program ids)

-- the space of a program for these chosen expressions, sets and growth
abbrev pub space_of : Program → List SlotId → Sets → ℕ → Chosen
space_of program ids sets grow = record { ids = ids; slots = slots_of program ids; sets = sets; grow = grow }

-- at most four candidates of the program, in rising order
pub record AreChosen (program : Program) (ids : List SlotId) : Type 0 where
  pub candidates : All (Contains (candidates_of program)) ids
  pub rising : AllPairs (λ a b. a.0 < b.0) ids
  pub few : length ids ≤ 4

-- a space of the program
pub record IsSpaceOf (program : Program) (space : Chosen) : Type 0 where
  pub chosen : AreChosen program space.ids
  pub slots : space.slots ≡ slots_of program space.ids

-- each slot's own tree fits it
abbrev pub SlotsFit : List Slot → Type 0
SlotsFit slots = All (λ slot. FitsSlot slot slot.expr) slots

-- the bounds that every space keeps: at most four slots, each of at most 31 nodes, and growth up to 20
pub record AreBounded (ids : List SlotId) (slots : List Slot) (grow : ℕ) : Type 0 where
  pub one_each : length slots ≡ length ids
  pub few : length slots ≤ 4
  pub small : All (λ slot. nodes slot.expr ≤ 31) slots
  pub grown : grow ≤ 20
