-- Zeros for the structs that objects have within them, and for no others.
use Rattle.std.specs.Prelude.{ℕ, zero, suc, Bool, true, false, not, List, [], ◌∷◌, ◌++◌, length, replicate, Option, Some, None, slice_get, slice_set}
use Rattle.ax_prog.specs.declared.Ty.{Ty, Ptr', Array', more_of-Ty, end_of-Ty}
use Rattle.ax_prog.specs.declared.Ty.TheVariants as ty
use Rattle.ax_prog.specs.declared.VarId.{VarId}
use Rattle.ax_prog.specs.declared.StructId.{StructId}
use Rattle.ax_prog.specs.declared.Struct.{Struct}
use Rattle.ax_prog.specs.declared.Init.{Init}
use Rattle.ax_prog.specs.declared.Init.TheVariants as init
use Rattle.ax_prog.specs.declared.Program.{Program}
use Rattle.ax_meaning.specs.declared.Cell.{Cell}
use Rattle.ax_meaning.specs.declared.State.{State}
use Rattle.ax_meaning.specs.Types.{type_of_var, fields_of}
use Rattle.ax_meaning.specs.Acts.{with_object, listed, cells_of_var}
use Rattle.ax_meaning.specs.Runs.{zeros, zeros_of_fields}

-- the struct that a type is, or that the elements of an array are in the end
abbrev pub struct_in : Ty → Option StructId
struct_in ty.Int = None
struct_in (Ptr' sh row) = None
struct_in (Array' sh (more_of-Ty t end_of-Ty) n) = struct_in t
struct_in (ty.Struct k) = Some k

-- whether a struct is left out, by its mark
abbrev pub left_out : Option Bool → Bool
left_out None = false
left_out (Some is_needed) = not is_needed

-- the marks with this struct needed, with those within these members, and with those within a program's globals
abbrev pub with_struct : Option StructId → List Bool → List Bool
with_struct None marks = marks
with_struct (Some k) marks = slice_set marks k.0 true

abbrev pub with_members : List (List ℕ × Ty) → List Bool → List Bool
with_members [] marks = marks
with_members (field ∷ rest) marks = with_members rest (with_struct (struct_in field.1) marks)

abbrev pub with_globals : Program → List (VarId × Init) → List Bool → List Bool
with_globals p [] marks = marks
with_globals p (g ∷ rest) marks = with_globals p rest (with_struct (struct_in (type_of_var (slice_get p.vars g.0.0))) marks)

abbrev pub unless_left : Bool → List (List ℕ × Ty) → List Bool → List Bool
unless_left true fields marks = marks
unless_left false fields marks = with_members fields marks

-- the marks with all that is within the needed ones of the first n structs, by the last of them first
abbrev pub with_inner : List Struct → ℕ → List Bool → List Bool
with_inner structs zero marks = marks
with_inner structs (suc n) marks = with_inner structs n (unless_left (left_out (slice_get marks n)) (fields_of (slice_get structs n)) marks)

abbrev pub cells_unless : Bool → List Cell → List Cell
cells_unless true cells = []
cells_unless false cells = cells

-- the zeros of each struct that isn't left out, and no cells for the others
abbrev pub zeros_by : List Bool → List (List Cell) → List Struct → List (List Cell)
zeros_by marks done [] = done
zeros_by marks done (s ∷ rest) = zeros_by marks (done ++ cells_unless (left_out (slice_get marks (length done))) (zeros_of_fields done s.fields) ∷ []) rest

-- the marks of the structs within a program's globals
abbrev pub marks_of : Program → List Bool
marks_of p = with_inner p.structs (length p.structs) (with_globals p p.globals (replicate (length p.structs) false))

-- what a global starts with where the structs have these zeros, and the state with these globals
abbrev pub cells_from : List (List Cell) → Program → VarId → Init → List Cell
cells_from structs p v (init.List ns) = listed (cells_of_var p v) ns
cells_from structs p v init.Nothing = zeros structs (type_of_var (slice_get p.vars v.0))
cells_from structs p v (init.Value w) = zeros structs (type_of_var (slice_get p.vars v.0))

abbrev pub entered_from : List (List Cell) → Program → List (VarId × Init) → State → State
entered_from structs p [] st = st
entered_from structs p (g ∷ rest) st = entered_from structs p rest (with_object g.0 (cells_from structs p g.0 g.1) st)
