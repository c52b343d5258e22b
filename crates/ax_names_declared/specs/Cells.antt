-- How many cells an object of a type has (C11 6.2.6.1, 6.7.2.1p15). Every `int` and every pointer is one cell.
use Rattle.std.specs.Prelude.{ℕ, ◌+◌, ◌*◌, min, List, [], ◌∷◌, ◌++◌, map, Option, Some, None, slice_get}
use Rattle.ax_prog.specs.declared.Ty.{Ty, Ptr', Array', more_of-Ty, end_of-Ty}
use Rattle.ax_prog.specs.declared.Ty.TheVariants as ty
use Rattle.ax_prog.specs.declared.Struct.{Struct}

abbrev pub or_zero : Option ℕ → ℕ
or_zero None = 0
or_zero (Some n) = n

-- where the structs have these numbers of cells
abbrev pub cells_of : List ℕ → Ty → ℕ
cells_of cells ty.Int = 1
cells_of cells (Ptr' s row) = 1
cells_of cells (Array' s (more_of-Ty t end_of-Ty) n) = n * cells_of cells t
cells_of cells (ty.Struct k) = or_zero (slice_get cells k.0)

abbrev pub cells_in : List ℕ → List (List ℕ × Ty) → ℕ
cells_in cells [] = 0
cells_in cells (f ∷ rest) = cells_of cells f.1 + cells_in cells rest

-- a struct has the cells of its members, whose structs stand before it
abbrev pub cells_after : List ℕ → List Struct → List ℕ
cells_after cells [] = cells
cells_after cells (s ∷ rest) = cells_after (cells ++ cells_in cells s.fields ∷ []) rest

abbrev pub struct_cells : List Struct → List ℕ
struct_cells structs = cells_after [] structs

-- an object has at most so many
abbrev pub most_cells : ℕ
most_cells = 4096

-- a number of cells, where more than the most count as one more than that
abbrev pub capped : ℕ → ℕ
capped n = min n 4097

abbrev pub measured : List Struct → List ℕ
measured structs = map capped (struct_cells structs)
