-- Heads of functions (C11 6.7.6.3, 6.9.1): what they declare, and which rules they break.
use Rattle.std.specs.Prelude.{◌≡◌, ℕ, ◌<◌, Bool, true, false, List, [], ◌∷◌, ◌++◌, length, Option, Some, None}
use Rattle.ax_prog.specs.declared.Span.{Span}
use Rattle.ax_prog.specs.declared.Ty.{Ty, Ptr', Array', more_of-Ty, end_of-Ty}
use Rattle.ax_prog.specs.declared.Ty.TheVariants as ty
use Rattle.ax_prog.specs.declared.StructId.{StructId}
use Rattle.ax_prog.specs.declared.Struct.{Struct}
use Rattle.ax_parse_grammar.specs.declared.tree.Name.{Name}
use Rattle.ax_parse_grammar.specs.declared.tree.Base.{Base}
use Rattle.ax_parse_grammar.specs.declared.tree.Returns.{Returns}
use Rattle.ax_parse_grammar.specs.declared.tree.Returns.TheVariants as returns
use Rattle.ax_parse_grammar.specs.declared.tree.Param.{Param}
use Rattle.ax_parse_grammar.specs.declared.tree.Head.{Head}
use Rattle.ax_names_types.specs.declared.TypeKind.TheVariants.{WrongType}
use Rattle.ax_names_types.specs.declared.TypeFault.{TypeFault}
use Rattle.ax_names_types.specs.Faults.{fault}
use Rattle.ax_names_declared.specs.declared.heads.Signature.{Signature}
use Rattle.ax_names_declared.specs.Denotations.{tags_of, Declares, filled}
use Rattle.ax_names_declared.specs.Breaks.{Misdeclares}
use Rattle.ax_names_declared.specs.Structs.{IsNew, Again}

-- no struct is passed or returned
abbrev pub IsScalar : Ty → Type 0
IsScalar u = (k : StructId) → u ≡ ty.Struct k → ⊥

-- 6.7.6.3p7: a parameter that is declared as an array is a pointer to its elements
abbrev pub adjusted : Ty → Ty
adjusted ty.Int = ty.Int
adjusted (Ptr' s (more_of-Ty a end_of-Ty)) = ty.Ptr a
adjusted (Array' s (more_of-Ty a end_of-Ty) n) = ty.Ptr a
adjusted (ty.Struct k) = ty.Struct k

-- a parameter's type; an empty first size counts as any number
pub data DeclaresParam (structs : List Struct) (p : Param) : Ty → Type 0 where
  param : {u : Ty} → Declares (tags_of structs) (length structs) p.base p.stars (filled 1 p.sizes) u → IsScalar (adjusted u) → DeclaresParam structs p (adjusted u)

pub data MisdeclaresParam (structs : List Struct) (p : Param) : TypeFault → Type 0 where
  declarator : {f : TypeFault} → Misdeclares (tags_of structs) (length structs) p.base p.stars (filled 1 p.sizes) p.span f → MisdeclaresParam structs p f
  struct : (u : Ty) → Declares (tags_of structs) (length structs) p.base p.stars (filled 1 p.sizes) u → (IsScalar (adjusted u) → ⊥) → MisdeclaresParam structs p (fault WrongType p.span)

-- 6.9.1p5: in a definition each parameter has a name; no two have one name
pub data IsNamed (defined : Bool) (names : List (List ℕ)) : Option Name → Type 0 where
  named : {x : Name} → IsNew names x.text → IsNamed defined names (Some x)
  nameless : defined ≡ false → IsNamed defined names None

pub data Misnamed (defined : Bool) (names : List (List ℕ)) (at : Span) : Option Name → TypeFault → Type 0 where
  again : {x : Name} {f : TypeFault} → Again names x f → Misnamed defined names at (Some x) f
  nameless : defined ≡ true → Misnamed defined names at None (fault WrongType at)

abbrev pub and_name : List (List ℕ) → Option Name → List (List ℕ)
and_name names None = names
and_name names (Some x) = names ++ x.text ∷ []

-- parameters behind those of these names have these types
pub data AreParams (structs : List Struct) (defined : Bool) : List (List ℕ) → List Param → List Ty → Type 0 where
  none : {names : List (List ℕ)} → AreParams structs defined names [] []
  more : {names : List (List ℕ)} {p : Param} {u : Ty} {rest : List Param} {us : List Ty} → IsNamed defined names p.name → DeclaresParam structs p u → AreParams structs defined (and_name names p.name) rest us → AreParams structs defined names (p ∷ rest) (u ∷ us)

pub data BreakParams (structs : List Struct) (defined : Bool) : List (List ℕ) → List Param → TypeFault → Type 0 where
  name : {names : List (List ℕ)} {p : Param} {rest : List Param} {f : TypeFault} → Misnamed defined names p.span p.name f → BreakParams structs defined names (p ∷ rest) f
  param : {names : List (List ℕ)} {p : Param} {rest : List Param} {f : TypeFault} → MisdeclaresParam structs p f → BreakParams structs defined names (p ∷ rest) f
  later : {names : List (List ℕ)} {p : Param} {rest : List Param} {f : TypeFault} → BreakParams structs defined (and_name names p.name) rest f → BreakParams structs defined names (p ∷ rest) f

-- 6.7.6.3p1: what a function returns, if anything
pub data IsResult (structs : List Struct) : Returns → ℕ → Option Ty → Type 0 where
  nothing : {at : Span} → IsResult structs (returns.Void at) 0 None
  value : {base : Base} {stars : ℕ} {u : Ty} → Declares (tags_of structs) (length structs) base stars [] u → IsScalar u → IsResult structs (returns.Of base) stars (Some u)

pub data BreaksResult (structs : List Struct) (at : Span) : Returns → ℕ → TypeFault → Type 0 where
  void : {here : Span} {stars : ℕ} → 0 < stars → BreaksResult structs at (returns.Void here) stars (fault WrongType at)
  declarator : {base : Base} {stars : ℕ} {f : TypeFault} → Misdeclares (tags_of structs) (length structs) base stars [] at f → BreaksResult structs at (returns.Of base) stars f
  struct : {base : Base} {stars : ℕ} (u : Ty) → Declares (tags_of structs) (length structs) base stars [] u → (IsScalar u → ⊥) → BreaksResult structs at (returns.Of base) stars (fault WrongType at)

-- a head declares a function of this result and these types of parameters
pub data DeclaresFunction (structs : List Struct) (defined : Bool) (h : Head) : Signature → Type 0 where
  function : {r : Option Ty} {us : List Ty} → IsResult structs h.returns h.stars r → AreParams structs defined [] h.params us → DeclaresFunction structs defined h (record { result = r; params = us })

pub data MisdeclaresFunction (structs : List Struct) (defined : Bool) (h : Head) : TypeFault → Type 0 where
  result : {f : TypeFault} → BreaksResult structs h.span h.returns h.stars f → MisdeclaresFunction structs defined h f
  params : {f : TypeFault} → BreakParams structs defined [] h.params f → MisdeclaresFunction structs defined h f
