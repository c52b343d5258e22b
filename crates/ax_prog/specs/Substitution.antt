-- A slot's tree replaced by another that fits it.
use Rattle.std.specs.Prelude.{ℤ, pos, negsuc, List, Contains, Option, Some, None, slice_set}
use Rattle.std.specs.Option.{ForSome}
use Rattle.ax_prog.specs.declared.Expr.{Expr, Num, Atom', Un', Bin', Cond'}
use Rattle.ax_prog.specs.declared.Atom.{Atom}
use Rattle.ax_prog.specs.declared.Atom.TheVariants as atom
use Rattle.ax_prog.specs.declared.Lval.TheVariants as lval
use Rattle.ax_prog.specs.declared.Atom.TheBlock.{more_of-Expr, end_of-Expr, more_of-Atom, end_of-Atom}
use Rattle.ax_prog.specs.declared.Span.{Span}
use Rattle.ax_prog.specs.declared.VarId.{VarId}
use Rattle.ax_prog.specs.declared.Slot.{Slot}
use Rattle.ax_prog.specs.declared.SlotId.{SlotId}
use Rattle.ax_prog.specs.declared.Program.{Program}
use Rattle.ax_prog.specs.Candidates.{slot_at}

-- the program with that slot's tree replaced; the slot's span, scope and atoms stay, and so does all else
abbrev pub with_tree : Option Slot → List Slot → SlotId → Expr → List Slot
with_tree None slots id tree = slots
with_tree (Some slot) slots id tree = slice_set slots id.0 (record slot { expr = tree })

abbrev pub substituted : Program → SlotId → Expr → Program
substituted program id tree = record program { slots = with_tree (slot_at program id) program.slots id tree }

-- an atom that may stand in a slot: the read of a variable in its scope, or one that its source has
pub data IsAtomOf (slot : Slot) : Atom → Type 0 where
  variable : {v : VarId} → Contains slot.scope v → IsAtomOf slot (atom.Read (lval.Var v))
  own : {a : Atom} (span : Span) → Contains slot.atoms (a, span) → IsAtomOf slot a

abbrev pub IsLiteral : ℤ → Type 0
IsLiteral (pos n) = Unit {0}
IsLiteral (negsuc n) = ⊥

-- a tree that fits a slot: its numbers aren't negative, and its atoms may stand there
abbrev pub FitsSlot : Slot → Expr → Type 0
FitsSlot slot (Num n) = IsLiteral n
FitsSlot slot (Atom' s (more_of-Atom a end_of-Atom)) = IsAtomOf slot a
FitsSlot slot (Un' op s (more_of-Expr a end_of-Expr)) = FitsSlot slot a
FitsSlot slot (Bin' op s (more_of-Expr a end_of-Expr) t (more_of-Expr b end_of-Expr)) = FitsSlot slot a × FitsSlot slot b
FitsSlot slot (Cond' s (more_of-Expr f end_of-Expr) t (more_of-Expr a end_of-Expr) u (more_of-Expr b end_of-Expr)) =
    FitsSlot slot f × FitsSlot slot a × FitsSlot slot b

-- a tree that fits the slot of that number
abbrev pub Fits : Program → SlotId → Expr → Type 0
Fits program id tree = ForSome (slot_at program id) (λ slot. FitsSlot slot tree)
