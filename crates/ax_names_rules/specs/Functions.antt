-- Heads and bodies of functions (C11 6.7.6.3, 6.9.1).
use Rattle.std.specs.Prelude.{◌≡◌, ℕ, true, false, Bool, List, [], ◌∷◌, ◌++◌, All, Option, Some, None, slice_get}
use Rattle.ax_prog.specs.declared.Ty.{Ty}
use Rattle.ax_prog.specs.declared.VarId.{VarId}
use Rattle.ax_prog.specs.declared.Struct.{Struct}
use Rattle.ax_prog.specs.declared.Stmt as ps
use Rattle.ax_prog.specs.declared.Fun.{Fun}
use Rattle.ax_parse_grammar.specs.declared.tree.Name.{Name}
use Rattle.ax_parse_grammar.specs.declared.tree.Param.{Param}
use Rattle.ax_parse_grammar.specs.declared.tree.Head.{Head}
use Rattle.ax_parse_grammar.specs.declared.tree.Stmt.{Stmt}
use Rattle.ax_names_types.specs.declared.Entry.{Entry}
use Rattle.ax_names_types.specs.declared.Entity.TheVariants as entity
use Rattle.ax_names_types.specs.Scopes.{innermost}
use Rattle.ax_names_declared.specs.declared.heads.Signature as said
use Rattle.ax_names_declared.specs.Heads.{DeclaresFunction}
use Rattle.ax_names_rules.specs.declared.Signature.{Signature}
use Rattle.ax_names_rules.specs.declared.State.{State}
use Rattle.ax_names_rules.specs.States.{next_var, with_var, with_head, depth, leaving}
use Rattle.ax_names_rules.specs.Statements.{BecomeAll}

-- ---- heads

abbrev pub named : List ℕ → said.Signature → Signature
named x s = record { name = x; result = s.result; params = s.params }

-- a head says this where the structs are these; in a definition each parameter has a name
pub data Signs (structs : List Struct) (defined : Bool) (h : Head) : Signature → Type 0 where
  head : (s : said.Signature) → DeclaresFunction structs defined h s → Signs structs defined h (named h.name.text s)

-- 6.7p3, p4: the function's name is new in the file, or an earlier head of it says the same
pub data Introduces (st : State) (head : Signature) : State → Type 0 where
  first : innermost head.name st.names ≡ None → Introduces st head (with_head st head)
  again : (d : Entry) (k : ℕ) → innermost head.name st.names ≡ Some d → d.entity ≡ entity.Function k → slice_get st.heads k ≡ Some head → Introduces st head st

-- 6.9p5: the file has defined no function of this name yet
abbrev pub IsUndefined : State → List ℕ → Type 0
IsUndefined st x = All (λ f. f.name ≡ x → ⊥) st.funs

-- a head, of a definition or of a prototype, says this here, and what stands behind it
pub data IsHead (st : State) (defined : Bool) (h : Head) : Signature → State → Type 0 where
  head : {g : Signature} {st2 : State} → Signs st.structs defined h g → Introduces st g st2 → (defined ≡ true → IsUndefined st h.name.text) → IsHead st defined h g st2

-- ---- bodies

abbrev pub text_of : Option Name → List ℕ
text_of None = []
text_of (Some x) = x.text

-- 6.9.1p9: the parameters are variables of the scope of the body
abbrev pub with_params : State → List Param → List Ty → State
with_params st (p ∷ rest) (u ∷ us) = with_params (with_var st (text_of p.name) u) rest us
with_params st _ _ = st

abbrev pub ids_of : State → List Param → List Ty → List VarId
ids_of st (p ∷ rest) (u ∷ us) = next_var st ∷ ids_of (with_var st (text_of p.name) u) rest us
ids_of st _ _ = []

abbrev pub fun_of : Signature → List VarId → List ps.Stmt → Fun
fun_of g ids body = record { name = g.name; params = ids; result = g.result; body = body }

abbrev pub with_fun : State → Fun → State
with_fun st f = record st { funs = st.funs ++ f ∷ [] }

-- a function with this head and body, and what stands behind it
pub data DefinesFunction (defs : List (List ℕ)) (st : State) (h : Head) (items : List Stmt) : State → Type 0 where
  function : {g : Signature} {st2 st3 : State} {body : List ps.Stmt} → IsHead st true h g st2 → BecomeAll defs g.result false (depth st2) (with_params st2 h.params g.params) items body st3 → DefinesFunction defs st h items (with_fun (leaving (depth st2) st3) (fun_of g (ids_of st2 h.params g.params) body))
