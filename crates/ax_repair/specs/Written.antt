-- The source in which a patch is written.
use Rattle.std.specs.Prelude.{◌≡◌, ℕ, Bool, false, not, if◌then◌else◌, List, map, Option, Some, None}
use Rattle.std.specs.List.{All, filter, zip}
use Rattle.ax_prog.specs.declared.Expr.{Expr}
use Rattle.ax_prog.specs.declared.Span.{Span}
use Rattle.ax_prog.specs.declared.Slot.{Slot}
use Rattle.ax_prog.specs.declared.SlotId.{SlotId}
use Rattle.ax_prog.specs.declared.Program.{Program}
use Rattle.ax_prog.specs.Candidates.{slot_at, tree_at}
use Rattle.ax_prog.specs.Equality.{expr_eq}
use Rattle.ax_print.specs.Text.{text_of}
use Rattle.ax_print.specs.Spliced.{spliced}

-- a slot, and the tree that it is to have
abbrev pub Change : Type 0
Change = SlotId × Expr

abbrev pub is_other : Option Slot → Expr → Bool
is_other None tree = false
is_other (Some slot) tree = not (expr_eq slot.expr tree)

-- whether the tree isn't the slot's own
abbrev pub is_changed : Program → Change → Bool
is_changed program change = is_other (slot_at program change.0) change.1

-- the chosen slots whose trees change, with their new trees
abbrev pub changes_of : Program → List SlotId → List Expr → List Change
changes_of program ids trees = filter (is_changed program) (zip ids trees)

abbrev pub span_in : Option Slot → Span
span_in None = record { from = 0; to = 0 }
span_in (Some slot) = slot.span

abbrev pub span_at : Program → SlotId → Span
span_at program id = span_in (slot_at program id)

-- the place of a changed slot, and the text of its new tree
abbrev pub part_of : List ℕ → Program → Change → Span × List ℕ
part_of source program change = (span_at program change.0, text_of source program change.0 change.1)

abbrev pub parts_of : List ℕ → Program → List Change → List (Span × List ℕ)
parts_of source program changes = map (part_of source program) changes

-- the source with the expression of each changed slot replaced by the text of its new tree
abbrev pub written : List ℕ → Program → List SlotId → List Expr → List ℕ
written source program ids trees = spliced source (parts_of source program (changes_of program ids trees))

-- the place and text of a slot's new tree, where it changes
abbrev pub changed_part : List ℕ → Program → Change → Option (Span × List ℕ)
changed_part source program change = if is_changed program change then Some (part_of source program change) else None

-- each of these trees is the slot's own
abbrev pub AreOwn : Program → List SlotId → List Expr → Type 0
AreOwn program ids trees = All (λ change. tree_at program change.0 ≡ Some change.1) (zip ids trees)

-- where each tree is the slot's own, the written source is the given one
abbrev pub OwnTreesStay : Type 0
OwnTreesStay = (source : List ℕ) (program : Program) (ids : List SlotId) (trees : List Expr) → AreOwn program ids trees → written source program ids trees ≡ source
