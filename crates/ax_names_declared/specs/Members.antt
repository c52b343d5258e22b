-- The verdict on a definition of a struct, as a function; what a walk over its members has found.
use Rattle.std.specs.Prelude.{ℕ, List, [], ◌∷◌, ◌++◌, length, map, Option, Some, None, Ok, Err}
use Rattle.std.specs.List.{position}
use Rattle.ax_prog.specs.declared.Ty.{Ty}
use Rattle.ax_prog.specs.declared.Ty.TheVariants as ty
use Rattle.ax_prog.specs.declared.Struct.{Struct}
use Rattle.ax_parse_grammar.specs.declared.tree.Name.{Name}
use Rattle.ax_parse_grammar.specs.declared.tree.Base.{Base}
use Rattle.ax_parse_grammar.specs.declared.tree.Declarator.{Declarator}
use Rattle.ax_parse_grammar.specs.declared.tree.Members.{Members}
use Rattle.ax_names_types.specs.declared.TypeKind.TheVariants.{Redeclared}
use Rattle.ax_names_types.specs.Faults.{fault, Verdict}
use Rattle.ax_names_types.specs.Scopes.{same_text}
use Rattle.ax_names_types.specs.Verdicts.{both}
use Rattle.ax_names_declared.specs.declared.structs.Found.{Found}
use Rattle.ax_names_declared.specs.Firsts.{earlier, closed, fault_of}
use Rattle.ax_names_declared.specs.Denotations.{tags_of, name_at}
use Rattle.ax_names_declared.specs.Verdicts.{declared}
use Rattle.ax_names_declared.specs.Structs.{declarators_of}

-- a name that is to be none of those before it
abbrev pub named : Name → Option ℕ → Verdict (List ℕ)
named x None = Ok x.text
named x (Some k) = Err (fault Redeclared x.span)

abbrev pub paired : {A B : Type 0} → Verdict A → Verdict B → Verdict (A × B)
paired v w = both (λ a b. Ok (a, b)) v w

abbrev pub member : List (List ℕ) → ℕ → List (List ℕ) → Base × Declarator → Verdict (List ℕ × Ty)
member tags complete names c = paired (named c.1.name (name_at names c.1.name.text)) (declared tags complete c.0 c.1.stars c.1.sizes c.1.span)

abbrev pub joined : {A : Type 0} → Verdict A → Verdict (List A) → Verdict (List A)
joined v w = both (λ a rest. Ok (a ∷ rest)) v w

abbrev pub members : List (List ℕ) → ℕ → List (List ℕ) → List (Base × Declarator) → Verdict (List (List ℕ × Ty))
members tags complete names [] = Ok []
members tags complete names (c ∷ rest) = joined (member tags complete names c) (members tags complete (names ++ c.1.name.text ∷ []) rest)

abbrev pub struct_with : List ℕ → List (List ℕ × Ty) → Verdict Struct
struct_with x ms = Ok (record { name = x; fields = ms })

abbrev pub definition : List Struct → Name → List Members → Verdict Struct
definition structs x list = both struct_with (named x (name_at (tags_of structs) x.text)) (members (tags_of structs ++ x.text ∷ []) (length structs) [] (declarators_of list))

-- ---- the walk: the members so far, those with a fault too, and the first fault so far

abbrev pub names_of : List (List ℕ × Ty) → List (List ℕ)
names_of fields = map (λ f. f.0) fields

abbrev pub field_place : List (List ℕ × Ty) → List ℕ → Option ℕ
field_place fields x = position (λ f. same_text f.0 x) fields

abbrev pub type_or_int : Verdict Ty → Ty
type_or_int (Ok u) = u
type_or_int (Err f) = ty.Int

abbrev pub with_member : Name → Option ℕ → Verdict Ty → Found → Found
with_member x o v st = record { fields = st.fields ++ (x.text, type_or_int v) ∷ []; fault = earlier st.fault (earlier (fault_of (named x o)) (fault_of v)) }

abbrev pub after_one : List (List ℕ) → ℕ → Base → Declarator → Found → Found
after_one tags complete base d st = with_member d.name (name_at (names_of st.fields) d.name.text) (declared tags complete base d.stars d.sizes d.span) st

abbrev pub after_items : List (List ℕ) → ℕ → Base → List Declarator → Found → Found
after_items tags complete base [] st = st
after_items tags complete base (d ∷ rest) st = after_items tags complete base rest (after_one tags complete base d st)

abbrev pub after_members : List (List ℕ) → ℕ → List Members → Found → Found
after_members tags complete [] st = st
after_members tags complete (m ∷ rest) st = after_members tags complete rest (after_items tags complete m.base m.items st)

abbrev pub nothing_found : Found
nothing_found = record { fields = []; fault = None }

-- the struct, or the first fault in its name and its members
abbrev pub defined : Name → Option ℕ → Found → Verdict Struct
defined x o st = both struct_with (named x o) (closed st.fault st.fields)
