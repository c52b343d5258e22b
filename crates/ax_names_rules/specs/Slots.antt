-- The slots that a source has said, and their atoms.
use Rattle.std.specs.Prelude.{◌≡◌, List, All}
use Rattle.ax_prog.specs.declared.Slot.{Slot}
use Rattle.ax_names_types.specs.Atoms.{atoms_of, atoms_in}

-- the atoms of each slot are those of its expression, in source order
abbrev pub CarryTheirAtoms : List Slot → Type 0
CarryTheirAtoms slots = All (λ s. atoms_in s.atoms ≡ atoms_of s.expr) slots
