-- The parts of a written source lie in it.
use Rattle.std.proofs.Common.{◌≡◌, ℕ, zero, suc, ◌<◌, ◌≤◌, Bool, true, false, cond, List, [], ◌∷◌, length, get_or, slice_get, Option, Some, None, refl, sym, ◌∙◌, inl, inr, arith}
use Rattle.std.specs.List.{All, AllPairs}
use Rattle.std.proofs.lemmas.Option.{slice_get_cases, get_or_from_slice_get}
use Rattle.std.proofs.lemmas.List.Elements.{All-contains, All-head, All-tail}
use Rattle.ax_prog.specs.declared.Expr.{Expr}
use Rattle.ax_prog.specs.declared.Sets.{Sets}
use Rattle.ax_prog.specs.declared.Slot.{Slot}
use Rattle.ax_prog.specs.declared.SlotId.{SlotId}
use Rattle.ax_prog.specs.declared.Program.{Program}
use Rattle.ax_prog.specs.Candidates.{slot_at}
use Rattle.ax_print.specs.Spliced.{AreParts}
use Rattle.ax_front_facts.specs.Spans.{LiesIn, SlotsLie, SlotsRise}
use Rattle.ax_space.specs.Chosen.{AreChosen, SlotsFit, space_of}
use Rattle.ax_repair.specs.Search.{IsSearchable}
use Rattle.ax_repair.specs.Written.{Change, is_other, is_changed, changes_of, parts_of}

-- a space of chosen expressions without guards can be searched
pub searchable : (program : Program) (ids : List SlotId) (sets : Sets) (grow : ℕ) → AreChosen program ids → sets.guard ≡ false → SlotsFit program.slots → IsSearchable program (space_of program ids sets grow)
searchable program ids sets grow chosen no_guard fit = record {
  of_program = record { chosen = chosen; slots = refl };
  no_guard = no_guard;
  fitting = fit;
}

slot-lies : (len : ℕ) (slots : List Slot) (i : ℕ) (slot : Slot) → All (λ slot. LiesIn len slot.span) slots → slice_get slots i ≡ Some slot → LiesIn len slot.span
slot-lies len slots i slot all e =
    elim (slice_get_cases slots i).1 as (λ _. LiesIn len slot.span) [
      | inl found ↦ All-contains (λ slot. LiesIn len slot.span) slots slot all (i, found.1, get_or_from_slice_get slots i slot slot e)
      | inr gone ↦ absurd (let f : None ≡ Some slot = sym gone.1 ∙ e in cc)
    ]

within : (slots : List Slot) (i : ℕ) (slot : Slot) → slice_get slots i ≡ Some slot → i < length slots
within slots i slot e =
    elim (slice_get_cases slots i).1 as (λ _. i < length slots) [ inl found ↦ found.1 | inr gone ↦ absurd (let f : None ≡ Some slot = sym gone.1 ∙ e in cc) ]

AllPairs-tail : (id : SlotId) (ids : List SlotId) → AllPairs (λ (a b : SlotId). a.0 < b.0) (id ∷ ids) → AllPairs (λ (a b : SlotId). a.0 < b.0) ids
AllPairs-tail id ids order = λ i j d lt in'. order (suc i) (suc j) d (omega (arith, lt)) (omega (arith, in'))

AllPairs-first : (id : SlotId) (ids : List SlotId) → AllPairs (λ (a b : SlotId). a.0 < b.0) (id ∷ ids) → All (λ (other : SlotId). id.0 < other.0) ids
AllPairs-first id ids order = λ k d h. order zero (suc k) d (omega arith) (omega (arith, h))

-- no slot of these numbers begins before this place
abbrev AreBehind : ℕ → Program → List SlotId → Type 0
AreBehind at program ids = All (λ id. (slot : Slot) → slot_at program id ≡ Some slot → at ≤ slot.span.from) ids

-- slots of greater numbers begin behind a slot's end
behind-slot : (program : Program) (id : SlotId) (ids : List SlotId) (slot : Slot) → SlotsRise program → slot_at program id ≡ Some slot → All (λ other. id.0 < other.0) ids → AreBehind slot.span.to program ids
behind-slot program id ids slot rise e above = λ k d h other f.
    let place = get_or ids k d in
    let order = rise id.0 place.0 slot (above k d h) (within program.slots place.0 other f) in
    rw (get_or_from_slice_get program.slots id.0 slot slot e, get_or_from_slice_get program.slots place.0 other slot f) at order

-- the part of a chosen expression, where the parts of the others stand behind it
part-before : (source : List ℕ) (program : Program) (id : SlotId) (tree : Expr) (rest : List Change) (at : ℕ) → SlotsLie (length source) program → ((slot : Slot) → slot_at program id ≡ Some slot → at ≤ slot.span.from) → AreParts at (length source) (parts_of source program rest) → ((slot : Slot) → slot_at program id ≡ Some slot → AreParts slot.span.to (length source) (parts_of source program rest)) → (o : Option Slot) → slot_at program id ≡ o → (b : Bool) → is_other o tree ≡ b → AreParts at (length source) (parts_of source program (cond b ((id, tree) ∷ rest) rest))
part-before source program id tree rest at lie behind skip more None e true h = absurd (cc)
part-before source program id tree rest at lie behind skip more None e false h = skip
part-before source program id tree rest at lie behind skip more (Some slot) e false h = skip
part-before source program id tree rest at lie behind skip more (Some slot) e true h =
    let lies = slot-lies (length source) program.slots id.0 slot lie e in
    rw e (behind slot e, lies.0, more slot e)

-- the parts of chosen expressions, whose numbers rise, stand one after another
all_parts : (source : List ℕ) (program : Program) → SlotsLie (length source) program → SlotsRise program → (ids : List SlotId) (trees : List Expr) (at : ℕ) → at ≤ length source → AllPairs (λ a b. a.0 < b.0) ids → AreBehind at program ids → AreParts at (length source) (parts_of source program (changes_of program ids trees))
all_parts source program lie rise [] trees at le order behind = le
all_parts source program lie rise (id ∷ ids) [] at le order behind = le
all_parts source program lie rise (id ∷ ids) (tree ∷ trees) at le order behind =
    let Behind = λ (id : SlotId). (slot : Slot) → slot_at program id ≡ Some slot → at ≤ slot.span.from in
    let later = AllPairs-tail id ids order in
    let skip = all_parts source program lie rise ids trees at le later (All-tail Behind id ids behind) in
    part-before source program id tree (changes_of program ids trees) at lie (All-head Behind id ids behind) skip
    (λ slot e. all_parts source program lie rise ids trees slot.span.to (slot-lies (length source) program.slots id.0 slot lie e).1 later (behind-slot program id ids slot rise e (AllPairs-first id ids order)))
    (slot_at program id) refl (is_changed program (id, tree)) refl

pub chosen_parts : (source : List ℕ) (program : Program) (ids : List SlotId) (trees : List Expr) → AreChosen program ids → SlotsLie (length source) program → SlotsRise program → AreParts 0 (length source) (parts_of source program (changes_of program ids trees))
chosen_parts source program ids trees chosen lie rise =
    all_parts source program lie rise ids trees 0 (omega arith) chosen.rising (λ k d h slot e. omega arith)
