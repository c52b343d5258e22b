-- How many cells a type has, where a member stands in its struct, and the type of a place (C11 6.2.5, 6.7.2.1, 6.7.6.2).
-- Every `int` and every pointer is one cell. Where a tree breaks the rules of types, its type is `int`.
use Rattle.std.specs.Prelude.{ℕ, zero, suc, ◌+◌, ◌-◌, ◌*◌, ◌^◌, min, List, [], ◌∷◌, ◌++◌, length, Option, Some, None, slice_get}
use Rattle.ax_prog.specs.declared.Ty.{Ty, Ptr', Array', more_of-Ty, end_of-Ty}
use Rattle.ax_prog.specs.declared.Ty.TheVariants as ty
use Rattle.ax_prog.specs.declared.Atom.TheBlock.{more_of-Lval, end_of-Lval, more_of-Pexpr, end_of-Pexpr}
use Rattle.ax_prog.specs.declared.Lval.{Lval, Deref', Field'}
use Rattle.ax_prog.specs.declared.Lval.TheVariants as lval
use Rattle.ax_prog.specs.declared.Pexpr.{Pexpr}
use Rattle.ax_prog.specs.declared.Pexpr.TheVariants as p
use Rattle.ax_prog.specs.declared.Struct.{Struct}
use Rattle.ax_prog.specs.declared.Var.{Var}
use Rattle.ax_prog.specs.declared.Program.{Program}

-- Cells are numbered in 32 bits: a larger number counts as the last one, which no object of at most 4,096 cells has.
abbrev pub cell_number : ℕ → ℕ
cell_number n = min n (2 ^ 32 - 1)

abbrev pub or_zero : Option ℕ → ℕ
or_zero None = 0
or_zero (Some n) = n

-- the cells of a type, where the structs have these numbers of cells
abbrev pub cells_of : List ℕ → Ty → ℕ
cells_of sizes ty.Int = 1
cells_of sizes (Ptr' s row) = 1
cells_of sizes (Array' s (more_of-Ty t end_of-Ty) n) = cell_number (n * cells_of sizes t)
cells_of sizes (ty.Struct k) = or_zero (slice_get sizes k.0)

-- 6.7.2.1p15: the cells before a member, or of all members where there is none of that number
abbrev pub cells_before : List ℕ → List (List ℕ × Ty) → ℕ → ℕ
cells_before sizes [] at = 0
cells_before sizes (f ∷ fs) zero = 0
cells_before sizes (f ∷ fs) (suc at) = cell_number (cells_of sizes f.1 + cells_before sizes fs at)

-- each struct has the cells of its members; these are of earlier structs
abbrev pub sizes_after : List ℕ → List Struct → List ℕ
sizes_after sizes [] = sizes
sizes_after sizes (s ∷ rest) = sizes_after (sizes ++ cells_before sizes s.fields (length s.fields) ∷ []) rest

abbrev pub sizes_of : Program → List ℕ
sizes_of program = sizes_after [] program.structs

-- the type that a pointer points at
abbrev pub pointee_of : Ty → Ty
pointee_of (Ptr' s (more_of-Ty t end_of-Ty)) = t
pointee_of ty.Int = ty.Int
pointee_of (Array' s row n) = ty.Int
pointee_of (ty.Struct k) = ty.Int

-- the type of an array's elements, and their number
abbrev pub element_of : Ty → Ty
element_of (Array' s (more_of-Ty t end_of-Ty) n) = t
element_of (Ptr' s row) = ty.Int
element_of ty.Int = ty.Int
element_of (ty.Struct k) = ty.Int

abbrev pub elements_of : Ty → ℕ
elements_of (Array' s row n) = n
elements_of (Ptr' s row) = 1
elements_of ty.Int = 1
elements_of (ty.Struct k) = 1

abbrev pub type_of_var : Option Var → Ty
type_of_var None = ty.Int
type_of_var (Some v) = v.ty

abbrev pub type_of_field : Option (List ℕ × Ty) → Ty
type_of_field None = ty.Int
type_of_field (Some f) = f.1

abbrev pub fields_of : Option Struct → List (List ℕ × Ty)
fields_of None = []
fields_of (Some s) = s.fields

-- the type of a member, and the cells before it
abbrev pub field_of : List Struct → Ty → ℕ → Ty
field_of structs (ty.Struct k) at = type_of_field (slice_get (fields_of (slice_get structs k.0)) at)
field_of structs (Ptr' s row) at = ty.Int
field_of structs (Array' s row n) at = ty.Int
field_of structs ty.Int at = ty.Int

abbrev pub offset_of : List ℕ → List Struct → Ty → ℕ → ℕ
offset_of sizes structs (ty.Struct k) at = cells_before sizes (fields_of (slice_get structs k.0)) at
offset_of sizes structs (Ptr' s row) at = 0
offset_of sizes structs (Array' s row n) at = 0
offset_of sizes structs ty.Int at = 0

-- the type of a place, and the type that a pointer expression points at
abbrev mutual
  pub type_of : Program → Lval → Ty
  type_of cx (lval.Var v) = type_of_var (slice_get cx.vars v.0)
  type_of cx (Deref' s (more_of-Pexpr q end_of-Pexpr)) = target_of cx q
  type_of cx (Field' s (more_of-Lval l end_of-Lval) at) = field_of cx.structs (type_of cx l) at

  pub target_of : Program → Pexpr → Ty
  target_of cx p.Null = ty.Int
  target_of cx (p.Read' s (more_of-Lval l end_of-Lval)) = pointee_of (type_of cx l)
  target_of cx (p.Decay' s (more_of-Lval l end_of-Lval)) = element_of (type_of cx l)
  target_of cx (p.Address' s (more_of-Lval l end_of-Lval)) = type_of cx l
  target_of cx (p.Plus' s (more_of-Pexpr q end_of-Pexpr) t i) = target_of cx q
  target_of cx (p.Minus' s (more_of-Pexpr q end_of-Pexpr) t i) = target_of cx q
