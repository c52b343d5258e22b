-- Changes of a program's slots, and the source in which they are written.
use Rattle.std.specs.Prelude.{ℕ, ◌+◌, ◌≤◌, ◌<◌, List, [], ◌∷◌, map, length, Option, Some, None}
use Rattle.ax_prog.specs.declared.Span.{Span}
use Rattle.ax_prog.specs.declared.Expr.{Expr}
use Rattle.ax_prog.specs.declared.Slot.{Slot}
use Rattle.ax_prog.specs.declared.SlotId.{SlotId}
use Rattle.ax_prog.specs.declared.Program.{Program}
use Rattle.ax_prog.specs.Candidates.{slot_at}
use Rattle.ax_prog.specs.Substitution.{Fits, substituted}
use Rattle.ax_prog.specs.Same.{SameProgram}
use Rattle.ax_front.specs.Texts.{IsProgramOfText}
use Rattle.ax_print.specs.Text.{text_of}
use Rattle.ax_print.specs.Spliced.{spliced, AreParts}
use Rattle.ax_front_facts.specs.Writable.{IsWritable}

-- ---- changes

-- a slot, and the tree that it is to have
abbrev pub Change : Type 0
Change = SlotId × Expr

-- there is such a slot, and the tree fits it and can be written
abbrev pub IsChange : Program → Change → Type 0
IsChange program change = (change.0.0 < length program.slots) × Fits program change.0 change.1 × IsWritable change.1

-- changes of slots whose numbers rise, from this number on
abbrev pub AreChanges : ℕ → Program → List Change → Type 0
AreChanges from program [] = Unit {0}
AreChanges from program (change ∷ rest) = (from ≤ change.0.0) × IsChange program change × AreChanges (change.0.0 + 1) program rest

-- the program with the trees of these slots replaced in turn
abbrev pub replaced : Program → List Change → Program
replaced program [] = program
replaced program (change ∷ rest) = replaced (substituted program change.0 change.1) rest

-- ---- texts

abbrev pub span_in : Option Slot → Span
span_in None = record { from = 0; to = 0 }
span_in (Some slot) = slot.span

abbrev pub span_at : Program → SlotId → Span
span_at program id = span_in (slot_at program id)

-- each slot's place, and the text of its new tree
abbrev pub parts_of : List ℕ → Program → List Change → List (Span × List ℕ)
parts_of source program changes = map (λ change. (span_at program change.0, text_of source program change.0 change.1)) changes

abbrev pub changed : List ℕ → Program → List Change → List ℕ
changed source program changes = spliced source (parts_of source program changes)

-- The places of the changed slots rise and don't overlap, and the changed source is the text of the program with the new
-- trees.
pub record ReadsBack (source : List ℕ) (program : Program) (changes : List Change) : Type 0 where
  pub parts : AreParts 0 (length source) (parts_of source program changes)
  pub new : Program
  pub read : IsProgramOfText (changed source program changes) new
  pub same : SameProgram new (replaced program changes)
