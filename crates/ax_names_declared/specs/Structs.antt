-- Definitions of structs (C11 6.7.2.1, 6.7.2.3): what they define, and which rules they break.
use Rattle.std.specs.Prelude.{◌≡◌, ℕ, List, [], ◌∷◌, ◌++◌, length, map, Some, None}
use Rattle.ax_prog.specs.declared.Ty.{Ty}
use Rattle.ax_prog.specs.declared.Struct.{Struct}
use Rattle.ax_parse_grammar.specs.declared.tree.Name.{Name}
use Rattle.ax_parse_grammar.specs.declared.tree.Base.{Base}
use Rattle.ax_parse_grammar.specs.declared.tree.Declarator.{Declarator}
use Rattle.ax_parse_grammar.specs.declared.tree.Members.{Members}
use Rattle.ax_names_types.specs.declared.TypeKind.TheVariants.{Redeclared}
use Rattle.ax_names_types.specs.declared.TypeFault.{TypeFault}
use Rattle.ax_names_types.specs.Faults.{fault}
use Rattle.ax_names_declared.specs.Denotations.{tags_of, name_at, Declares}
use Rattle.ax_names_declared.specs.Breaks.{Misdeclares}

-- the declarators of the members, in order, each with its base
abbrev pub declarators_of : List Members → List (Base × Declarator)
declarators_of [] = []
declarators_of (m ∷ rest) = map (λ d. (m.base, d)) m.items ++ declarators_of rest

-- none of these names is this one
abbrev pub IsNew : List (List ℕ) → List ℕ → Type 0
IsNew names x = name_at names x ≡ None

-- a name that is one of these is declared again
pub data Again (names : List (List ℕ)) (x : Name) : TypeFault → Type 0 where
  again : (k : ℕ) → name_at names x.text ≡ Some k → Again names x (fault Redeclared x.span)

-- what a member is, where the structs have these tags and so many are complete; these are the names of the members before it
pub data IsMember (tags : List (List ℕ)) (complete : ℕ) (names : List (List ℕ)) : Base × Declarator → List ℕ × Ty → Type 0 where
  member : {base : Base} {d : Declarator} {u : Ty} → IsNew names d.name.text → Declares tags complete base d.stars d.sizes u → IsMember tags complete names (base, d) (d.name.text, u)

pub data BreaksMember (tags : List (List ℕ)) (complete : ℕ) (names : List (List ℕ)) : Base × Declarator → TypeFault → Type 0 where
  name : {base : Base} {d : Declarator} {f : TypeFault} → Again names d.name f → BreaksMember tags complete names (base, d) f
  declarator : {base : Base} {d : Declarator} {f : TypeFault} → Misdeclares tags complete base d.stars d.sizes d.span f → BreaksMember tags complete names (base, d) f

pub data AreMembers (tags : List (List ℕ)) (complete : ℕ) : List (List ℕ) → List (Base × Declarator) → List (List ℕ × Ty) → Type 0 where
  none : {names : List (List ℕ)} → AreMembers tags complete names [] []
  more : {names : List (List ℕ)} {d : Base × Declarator} {m : List ℕ × Ty} {rest : List (Base × Declarator)} {ms : List (List ℕ × Ty)} → IsMember tags complete names d m → AreMembers tags complete (names ++ d.1.name.text ∷ []) rest ms → AreMembers tags complete names (d ∷ rest) (m ∷ ms)

pub data BreakMembers (tags : List (List ℕ)) (complete : ℕ) : List (List ℕ) → List (Base × Declarator) → TypeFault → Type 0 where
  here : {names : List (List ℕ)} {d : Base × Declarator} {rest : List (Base × Declarator)} {f : TypeFault} → BreaksMember tags complete names d f → BreakMembers tags complete names (d ∷ rest) f
  later : {names : List (List ℕ)} {d : Base × Declarator} {rest : List (Base × Declarator)} {f : TypeFault} → BreakMembers tags complete (names ++ d.1.name.text ∷ []) rest f → BreakMembers tags complete names (d ∷ rest) f

-- Behind these structs the definition of this tag defines this struct. Within it the tag is known, but the struct isn't complete.
pub data Defines (structs : List Struct) (x : Name) (members : List Members) : Struct → Type 0 where
  struct : {ms : List (List ℕ × Ty)} → IsNew (tags_of structs) x.text → AreMembers (tags_of structs ++ x.text ∷ []) (length structs) [] (declarators_of members) ms → Defines structs x members (record { name = x.text; fields = ms })

pub data Misdefines (structs : List Struct) (x : Name) (members : List Members) : TypeFault → Type 0 where
  name : {f : TypeFault} → Again (tags_of structs) x f → Misdefines structs x members f
  member : {f : TypeFault} → BreakMembers (tags_of structs ++ x.text ∷ []) (length structs) [] (declarators_of members) f → Misdefines structs x members f
