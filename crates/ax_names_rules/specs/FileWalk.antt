-- What the parts of a file become, or their first fault, as functions; the laws say what these have to do with the rules.
use Rattle.std.specs.Prelude.{ℕ, Bool, true, false, not, ◌&&◌, if◌then◌else◌, List, [], ◌∷◌, Option, Some, None, codes, slice_get, Ok, Err}
use Rattle.std.specs.List.{list_all}
use Rattle.std.specs.Cmp.Lexicographic.{pointwise}
use Rattle.ax_prog.specs.declared.Span.{Span}
use Rattle.ax_prog.specs.declared.Ty.{Ty}
use Rattle.ax_prog.specs.declared.VarId.{VarId}
use Rattle.ax_prog.specs.declared.Fun.{Fun}
use Rattle.ax_prog.specs.declared.Program.{Program}
use Rattle.ax_parse_grammar.specs.declared.tree.Name.{Name}
use Rattle.ax_parse_grammar.specs.declared.tree.Head.{Head}
use Rattle.ax_parse_grammar.specs.declared.tree.Stmt.{Stmt}
use Rattle.ax_parse_grammar.specs.declared.tree.Part.{Part}
use Rattle.ax_parse_grammar.specs.declared.tree.Part.TheVariants as part
use Rattle.ax_parse_grammar.specs.declared.tree.Tree.{Tree}
use Rattle.ax_names_types.specs.declared.Entity.{Entity}
use Rattle.ax_names_types.specs.declared.Entity.TheVariants as entity
use Rattle.ax_names_types.specs.declared.TypeKind.TheVariants.{Redeclared, NoMain}
use Rattle.ax_names_types.specs.Faults.{fault, Verdict}
use Rattle.ax_names_types.specs.Scopes.{same_text, innermost}
use Rattle.ax_names_types.specs.Verdicts.{same_ty, both}
use Rattle.ax_names_declared.specs.declared.heads.Signature as said
use Rattle.ax_names_declared.specs.Members.{definition}
use Rattle.ax_names_declared.specs.Signatures.{signature}
use Rattle.ax_names_rules.specs.declared.Signature.{Signature}
use Rattle.ax_names_rules.specs.declared.State.{State}
use Rattle.ax_names_rules.specs.States.{is_int, with_head, depth, leaving}
use Rattle.ax_names_rules.specs.Values.{function_at}
use Rattle.ax_names_rules.specs.Functions.{named, with_params, ids_of, fun_of, with_fun}
use Rattle.ax_names_rules.specs.Programs.{definitions_of, with_struct, start, program_with}
use Rattle.ax_names_rules.specs.FileFaults.{end_of}
use Rattle.ax_names_rules.specs.ValueWalk.{Made, ◌>>=◌, entity_of, defined_at}
use Rattle.ax_names_rules.specs.StatementWalk.{globals_of, items_of}

-- ---- heads

abbrev pub same_result : Option Ty → Option Ty → Bool
same_result None None = true
same_result (Some a) (Some b) = same_ty a b
same_result None (Some b) = false
same_result (Some a) None = false

abbrev pub same_head : Signature → Signature → Bool
same_head a b = same_text a.name b.name && (same_result a.result b.result && pointwise same_ty a.params b.params)

abbrev pub says_the_same : Option Signature → Signature → Bool
says_the_same None g = false
says_the_same (Some e) g = same_head e g

abbrev pub introduced_by : Option Entity → Span → State → Signature → Verdict State
introduced_by None at st g = Ok (with_head st g)
introduced_by (Some (entity.Variable id u)) at st g = Err (fault Redeclared at)
introduced_by (Some (entity.Function k)) at st g = if says_the_same (slice_get st.heads k) g then Ok st else Err (fault Redeclared at)

abbrev pub is_undefined : State → List ℕ → Bool
is_undefined st x = list_all (λ f. not (same_text f.name x)) st.funs

abbrev pub once : Bool → State → Name → Verdict (List ℕ)
once false st x = Ok x.text
once true st x = if is_undefined st x.text then Ok x.text else Err (fault Redeclared x.span)

-- the name of a function is no variable's, and no function's that is defined again
abbrev pub name_for : Option Entity → Bool → State → Name → Verdict (List ℕ)
name_for (Some (entity.Variable id u)) defined st x = Err (fault Redeclared x.span)
name_for (Some (entity.Function k)) defined st x = once defined st x
name_for None defined st x = once defined st x

abbrev pub named_by : List ℕ → said.Signature → Verdict Signature
named_by x s = Ok (named x s)

abbrev pub signature_at : State → Bool → Head → Verdict Signature
signature_at st defined h = both named_by (name_for (entity_of (innermost h.name.text st.names)) defined st h.name) (signature st.structs defined h)

abbrev pub head_in : State → Bool → Head → Made Signature
head_in st defined h = signature_at st defined h >>= λ g. introduced_by (entity_of (innermost h.name.text st.names)) (h.name).span st g >>= λ st2. Ok (g, st2)

-- ---- parts

abbrev pub function_in : List (List ℕ) → Head → List Stmt → State → Verdict State
function_in defs h items st = head_in st true h >>= λ g. items_of defs (g.0).result false (depth g.1) items (with_params g.1 h.params (g.0).params) >>= λ r. Ok (with_fun (leaving (depth g.1) r.1) (fun_of g.0 (ids_of g.1 h.params (g.0).params) r.0))

abbrev pub prototype_in : List (List ℕ) → Head → State → Verdict State
prototype_in defs h st = both (λ j (g : Signature × State). Ok g.1) (defined_at (function_at defs h.name.text) (h.name).span) (head_in st false h)

abbrev pub part_of : List (List ℕ) → Part → State → Verdict State
part_of defs (part.Struct at x ms) st = definition st.structs x ms >>= λ s. Ok (with_struct st s)
part_of defs (part.Decl d) st = globals_of d.base d.items st
part_of defs (part.Function at h items) st = function_in defs h items st
part_of defs (part.Prototype at h) st = prototype_in defs h st

abbrev pub parts_of : List (List ℕ) → List Part → State → Verdict State
parts_of defs [] st = Ok st
parts_of defs (p ∷ rest) st = part_of defs p st >>= parts_of defs rest

-- ---- the whole

abbrev pub none_there : List VarId → Bool
none_there [] = true
none_there (x ∷ rest) = false

abbrev pub is_number : Option Ty → Bool
is_number None = false
is_number (Some u) = is_int u

abbrev pub is_main : Option Fun → Bool
is_main None = false
is_main (Some f) = none_there f.params && is_number f.result

abbrev pub main_at : Option ℕ → Span → State → Verdict Program
main_at None at st = Err (fault NoMain at)
main_at (Some j) at st = if is_main (slice_get st.funs j) then Ok (program_with st j) else Err (fault NoMain at)

abbrev pub program_of : Tree → Verdict Program
program_of tree = parts_of (definitions_of tree.parts) tree.parts start >>= main_at (function_at (definitions_of tree.parts) (codes "main")) (end_of tree)
