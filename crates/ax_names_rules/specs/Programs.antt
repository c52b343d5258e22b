-- Which program a source is (C11 6.9).
use Rattle.std.specs.Prelude.{◌≡◌, ℕ, false, List, [], ◌∷◌, ◌++◌, Option, Some, codes, slice_get}
use Rattle.ax_prog.specs.declared.Span.{Span}
use Rattle.ax_prog.specs.declared.Ty.TheVariants as ty
use Rattle.ax_prog.specs.declared.Struct.{Struct}
use Rattle.ax_prog.specs.declared.Fun.{Fun}
use Rattle.ax_prog.specs.declared.Program.{Program}
use Rattle.ax_parse_grammar.specs.declared.tree.Name.{Name}
use Rattle.ax_parse_grammar.specs.declared.tree.Decl.{Decl}
use Rattle.ax_parse_grammar.specs.declared.tree.Members.{Members}
use Rattle.ax_parse_grammar.specs.declared.tree.Head.{Head}
use Rattle.ax_parse_grammar.specs.declared.tree.Stmt.{Stmt}
use Rattle.ax_parse_grammar.specs.declared.tree.Part.{Part}
use Rattle.ax_parse_grammar.specs.declared.tree.Part.TheVariants as part
use Rattle.ax_parse_grammar.specs.declared.tree.Tree.{Tree}
use Rattle.ax_names_declared.specs.Structs.{Defines}
use Rattle.ax_names_rules.specs.declared.Signature.{Signature}
use Rattle.ax_names_rules.specs.declared.State.{State}
use Rattle.ax_names_rules.specs.Values.{function_at, fun_id}
use Rattle.ax_names_rules.specs.Declarations.{BecomeGlobals}
use Rattle.ax_names_rules.specs.Functions.{IsHead, DefinesFunction}

-- the name of the function that a part defines
abbrev pub defined_by : Part → List (List ℕ)
defined_by (part.Struct at x ms) = []
defined_by (part.Decl d) = []
defined_by (part.Function at h items) = h.name.text ∷ []
defined_by (part.Prototype at h) = []

-- the names of the functions that a file defines, in order
abbrev pub definitions_of : List Part → List (List ℕ)
definitions_of [] = []
definitions_of (x ∷ rest) = defined_by x ++ definitions_of rest

abbrev pub with_struct : State → Struct → State
with_struct st s = record st { structs = st.structs ++ s ∷ [] }

-- What stands behind a part of a file. A function that has a prototype has a definition.
pub data BecomesPart (defs : List (List ℕ)) (st : State) : Part → State → Type 0 where
  struct : {at : Span} {x : Name} {ms : List Members} (s : Struct) → Defines st.structs x ms s → BecomesPart defs st (part.Struct at x ms) (with_struct st s)
  decl : {d : Decl} {st2 : State} → BecomeGlobals d.base st d.items st2 → BecomesPart defs st (part.Decl d) st2
  function : {at : Span} {h : Head} {items : List Stmt} {st2 : State} → DefinesFunction defs st h items st2 → BecomesPart defs st (part.Function at h items) st2
  prototype : {at : Span} {h : Head} {g : Signature} {st2 : State} (j : ℕ) → IsHead st false h g st2 → function_at defs h.name.text ≡ Some j → BecomesPart defs st (part.Prototype at h) st2

pub data BecomeParts (defs : List (List ℕ)) : State → List Part → State → Type 0 where
  none : {st : State} → BecomeParts defs st [] st
  more : {st st2 st3 : State} {p : Part} {rest : List Part} → BecomesPart defs st p st2 → BecomeParts defs st2 rest st3 → BecomeParts defs st (p ∷ rest) st3

-- nothing is said yet
abbrev pub start : State
start = record { names = []; structs = []; vars = []; slots = []; heads = []; globals = []; funs = [] }

-- 5.1.2.2.1: `int main()`
pub data IsMain : Option Fun → Type 0 where
  main : {f : Fun} → f.params ≡ [] → f.result ≡ Some ty.Int → IsMain (Some f)

abbrev pub program_with : State → ℕ → Program
program_with st j = record { structs = st.structs; vars = st.vars; globals = st.globals; funs = st.funs; main = fun_id j; slots = st.slots }

-- the function of this number is `main`
pub data HasMain (defs : List (List ℕ)) (st : State) : ℕ → Type 0 where
  main : {j : ℕ} → function_at defs (codes "main") ≡ Some j → IsMain (slice_get st.funs j) → HasMain defs st j

-- The program of the tree.
pub data IsProgramOf (tree : Tree) : Program → Type 0 where
  file : {st : State} {j : ℕ} → BecomeParts (definitions_of tree.parts) start tree.parts st → HasMain (definitions_of tree.parts) st j → IsProgramOf tree (program_with st j)
