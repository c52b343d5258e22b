-- The types that bases and declarators denote (C11 6.7.2, 6.7.6).
use Rattle.std.specs.Prelude.{◌≡◌, ℕ, zero, suc, ◌<◌, ℤ, pos, negsuc, List, [], ◌∷◌, map, position, Option, Some, None}
use Rattle.std.specs.Prelude.{All}
use Rattle.ax_prog.specs.declared.Span.{Span}
use Rattle.ax_prog.specs.declared.Ty.{Ty}
use Rattle.ax_prog.specs.declared.Ty.TheVariants as ty
use Rattle.ax_prog.specs.declared.StructId.{StructId}
use Rattle.ax_prog.specs.declared.Struct.{Struct}
use Rattle.ax_parse_grammar.specs.declared.tree.Name.{Name}
use Rattle.ax_parse_grammar.specs.declared.tree.Base.{Base}
use Rattle.ax_parse_grammar.specs.declared.tree.Base.TheVariants as b
use Rattle.ax_parse_grammar.specs.declared.tree.Size.{Size}
use Rattle.ax_names_types.specs.Scopes.{same_text}

-- the tags of structs, in order
abbrev pub tags_of : List Struct → List (List ℕ)
tags_of structs = map (λ s. s.name) structs

-- the place of the first of these names that is this one
abbrev pub name_at : List (List ℕ) → List ℕ → Option ℕ
name_at names x = position (λ n. same_text n x) names

abbrev pub struct_id : ℕ → StructId
struct_id k = record { 0 = k }

-- 6.7.2, 6.7.2.3: a base denotes this type, where the structs have these tags
pub data Denotes (tags : List (List ℕ)) : Base → Ty → Type 0 where
  int : {at : Span} → Denotes tags (b.Int at) ty.Int
  struct : {at : Span} {x : Name} (k : ℕ) → name_at tags x.text ≡ Some k → Denotes tags (b.Struct at x) (ty.Struct (struct_id k))

-- 6.7.6.1: a pointer for each star
abbrev pub pointers_to : ℕ → Ty → Ty
pointers_to zero u = u
pointers_to (suc n) u = ty.Ptr (pointers_to n u)

-- the number in square brackets; 0 where there is none
abbrev pub count_of : Option ℤ → ℕ
count_of None = 0
count_of (Some (pos n)) = n
count_of (Some (negsuc n)) = 0

-- 6.7.6.2p3: an array for each size, the first one outermost
abbrev pub arrays_of : List Size → Ty → Ty
arrays_of [] u = u
arrays_of (s ∷ rest) u = ty.Array (arrays_of rest u) (count_of s.count)

-- 6.7.6.2p1: each size is a number above 0
abbrev pub AreSized : List Size → Type 0
AreSized sizes = All (λ s. 0 < count_of s.count) sizes

-- 6.7.2.1p3: so many structs are complete, and this type is none of the others
abbrev pub IsComplete : ℕ → Ty → Type 0
IsComplete n u = (k : StructId) → u ≡ ty.Struct k → k.0 < n

-- so many stars and these sizes make an object of this type of a base
pub data Declares (tags : List (List ℕ)) (complete : ℕ) (base : Base) (stars : ℕ) (sizes : List Size) : Ty → Type 0 where
  object : (u : Ty) → Denotes tags base u → IsComplete complete (pointers_to stars u) → AreSized sizes → Declares tags complete base stars sizes (arrays_of sizes (pointers_to stars u))

-- 6.7.9p22: an empty first size is the number of the numbers of the brace list
abbrev pub count_or : Option ℤ → ℕ → Option ℤ
count_or None n = Some (pos n)
count_or (Some m) n = Some m

abbrev pub filled_size : Size → ℕ → Size
filled_size s n = record { span = s.span; count = count_or s.count n }

abbrev pub filled : ℕ → List Size → List Size
filled n [] = []
filled n (s ∷ rest) = filled_size s n ∷ rest
