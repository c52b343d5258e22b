-- Which rules on types a declarator breaks, and where.
use Rattle.std.specs.Prelude.{◌≡◌, ℕ, ◌<◌, ◌≤◌, List, length, None}
use Rattle.ax_prog.specs.declared.Span.{Span}
use Rattle.ax_prog.specs.declared.Ty.{Ty}
use Rattle.ax_prog.specs.declared.Struct.{Struct}
use Rattle.ax_parse_grammar.specs.declared.tree.Name.{Name}
use Rattle.ax_parse_grammar.specs.declared.tree.Base.{Base}
use Rattle.ax_parse_grammar.specs.declared.tree.Base.TheVariants as b
use Rattle.ax_parse_grammar.specs.declared.tree.Size.{Size}
use Rattle.ax_names_types.specs.declared.TypeKind.TheVariants.{UnknownName, WrongType, RecursiveStruct, TooLarge}
use Rattle.ax_names_types.specs.declared.TypeFault.{TypeFault}
use Rattle.ax_names_types.specs.Faults.{fault}
use Rattle.ax_names_declared.specs.Denotations.{tags_of, name_at, Denotes, pointers_to, AreSized, IsComplete, Declares}
use Rattle.ax_names_declared.specs.Cells.{cells_of, struct_cells, most_cells}

-- 6.7.2.3: no struct has this tag
pub data Unknown (tags : List (List ℕ)) : Base → TypeFault → Type 0 where
  tag : {at : Span} {x : Name} → name_at tags x.text ≡ None → Unknown tags (b.Struct at x) (fault UnknownName x.span)

-- a declarator that stands here breaks a rule
pub data Misdeclares (tags : List (List ℕ)) (complete : ℕ) (base : Base) (stars : ℕ) (sizes : List Size) (at : Span) : TypeFault → Type 0 where
  unknown : {f : TypeFault} → Unknown tags base f → Misdeclares tags complete base stars sizes at f
  size : (AreSized sizes → ⊥) → Misdeclares tags complete base stars sizes at (fault WrongType at)
  incomplete : (u : Ty) → Denotes tags base u → (IsComplete complete (pointers_to stars u) → ⊥) → Misdeclares tags complete base stars sizes at (fault RecursiveStruct at)

-- a variable, or a brace list that sizes it, breaks a rule
pub data MisdeclaresObject (structs : List Struct) (base : Base) (stars : ℕ) (sizes : List Size) (at : Span) : TypeFault → Type 0 where
  declarator : {f : TypeFault} → Misdeclares (tags_of structs) (length structs) base stars sizes at f → MisdeclaresObject structs base stars sizes at f
  large : (u : Ty) → Declares (tags_of structs) (length structs) base stars sizes u → most_cells < cells_of (struct_cells structs) u → MisdeclaresObject structs base stars sizes at (fault TooLarge at)

-- so many stars and these sizes make a variable of this type of a base
pub data DeclaresObject (structs : List Struct) (base : Base) (stars : ℕ) (sizes : List Size) : Ty → Type 0 where
  object : {u : Ty} → Declares (tags_of structs) (length structs) base stars sizes u → cells_of (struct_cells structs) u ≤ most_cells → DeclaresObject structs base stars sizes u
