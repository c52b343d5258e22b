-- The verdict on a declarator, as a function.
use Rattle.std.specs.Prelude.{ℕ, zero, suc, ◌*◌, nat_lt, nat_le, slice_get, Bool, true, if◌then◌else◌, List, [], ◌∷◌, length, Option, Some, None, Ok, Err}
use Rattle.std.specs.List.{list_all, position}
use Rattle.ax_prog.specs.declared.Span.{Span}
use Rattle.ax_prog.specs.declared.Ty.{Ty}
use Rattle.ax_prog.specs.declared.Ty.TheVariants as ty
use Rattle.ax_prog.specs.declared.StructId.{StructId}
use Rattle.ax_prog.specs.declared.Struct.{Struct}
use Rattle.ax_parse_grammar.specs.declared.tree.Base.{Base}
use Rattle.ax_parse_grammar.specs.declared.tree.Base.TheVariants as b
use Rattle.ax_parse_grammar.specs.declared.tree.Size.{Size}
use Rattle.ax_names_types.specs.declared.TypeKind.TheVariants.{UnknownName, WrongType, RecursiveStruct, TooLarge}
use Rattle.ax_names_types.specs.declared.TypeFault.{TypeFault}
use Rattle.ax_names_types.specs.Faults.{fault, Verdict}
use Rattle.ax_names_types.specs.Scopes.{same_text}
use Rattle.ax_names_types.specs.Types.{struct_of}
use Rattle.ax_names_types.specs.Verdicts.{sooner}
use Rattle.ax_names_declared.specs.Firsts.{earlier, unless, closed}
use Rattle.ax_names_declared.specs.Denotations.{tags_of, name_at, struct_id, pointers_to, count_of, arrays_of}
use Rattle.ax_names_declared.specs.Cells.{or_zero, most_cells}

abbrev pub place_of : List Struct → List ℕ → Option ℕ
place_of structs x = position (λ s. same_text s.name x) structs

abbrev pub tagged : Span → Option ℕ → Verdict Ty
tagged at None = Err (fault UnknownName at)
tagged at (Some k) = Ok (ty.Struct (struct_id k))

abbrev pub base_of : List (List ℕ) → Base → Verdict Ty
base_of tags (b.Int at) = Ok ty.Int
base_of tags (b.Struct at x) = tagged x.span (name_at tags x.text)

abbrev pub are_sized : List Size → Bool
are_sized sizes = list_all (λ s. nat_lt 0 (count_of s.count)) sizes

abbrev pub is_below : ℕ → Option StructId → Bool
is_below n None = true
is_below n (Some k) = nat_lt k.0 n

-- a pointer is complete, and a struct where it stands before this place
abbrev pub is_complete : ℕ → ℕ → Ty → Bool
is_complete n zero u = is_below n (struct_of u)
is_complete n (suc stars) u = true

abbrev pub declarator : ℕ → ℕ → List Size → Span → Ty → Verdict Ty
declarator complete stars sizes at u = closed (earlier (unless (are_sized sizes) WrongType at) (unless (is_complete complete stars u) RecursiveStruct at)) (arrays_of sizes (pointers_to stars u))

-- the first fault of a declarator whose base has this one: its sizes are judged too
abbrev pub fault_with : List Size → Span → TypeFault → TypeFault
fault_with sizes at f = if are_sized sizes then f else sooner f (fault WrongType at)

abbrev pub with_base : ℕ → ℕ → List Size → Span → Verdict Ty → Verdict Ty
with_base complete stars sizes at (Ok u) = declarator complete stars sizes at u
with_base complete stars sizes at (Err f) = Err (fault_with sizes at f)

abbrev pub declared : List (List ℕ) → ℕ → Base → ℕ → List Size → Span → Verdict Ty
declared tags complete base stars sizes at = with_base complete stars sizes at (base_of tags base)

-- ---- variables

-- the cells of what stars make of a base
abbrev pub cells_at : List ℕ → Option StructId → ℕ
cells_at cells None = 1
cells_at cells (Some k) = or_zero (slice_get cells k.0)

abbrev pub unit_cells : List ℕ → ℕ → Option StructId → ℕ
unit_cells cells zero o = cells_at cells o
unit_cells cells (suc stars) o = 1

abbrev pub product : List Size → ℕ → ℕ
product [] n = n
product (s ∷ rest) n = count_of s.count * product rest n

abbrev pub fits : List ℕ → ℕ → List Size → Verdict Ty → Bool
fits cells stars sizes (Err f) = true
fits cells stars sizes (Ok u) = nat_le (product sizes (unit_cells cells stars (struct_of u))) most_cells

abbrev pub bounded : Bool → Span → Verdict Ty → Verdict Ty
bounded b at (Err f) = Err f
bounded b at (Ok u) = if b then Ok u else Err (fault TooLarge at)

-- the verdict on a variable, where the structs have these numbers of cells
abbrev pub object : List Struct → List ℕ → Base → ℕ → List Size → Span → Verdict Ty
object structs cells base stars sizes at = bounded (fits cells stars sizes (base_of (tags_of structs) base)) at (declared (tags_of structs) (length structs) base stars sizes at)
