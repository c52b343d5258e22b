-- Which rules heads, parts of a file and files break, and where.
use Rattle.std.specs.Prelude.{◌≡◌, ℕ, Bool, true, false, List, ◌∷◌, Some, None, slice_get}
use Rattle.ax_prog.specs.declared.Span.{Span}
use Rattle.ax_prog.specs.declared.Ty.{Ty}
use Rattle.ax_prog.specs.declared.VarId.{VarId}
use Rattle.ax_parse_grammar.specs.declared.tree.Name.{Name}
use Rattle.ax_parse_grammar.specs.declared.tree.Decl.{Decl}
use Rattle.ax_parse_grammar.specs.declared.tree.Members.{Members}
use Rattle.ax_parse_grammar.specs.declared.tree.Head.{Head}
use Rattle.ax_parse_grammar.specs.declared.tree.Stmt.{Stmt}
use Rattle.ax_parse_grammar.specs.declared.tree.Part.{Part}
use Rattle.ax_parse_grammar.specs.declared.tree.Part.TheVariants as part
use Rattle.ax_parse_grammar.specs.declared.tree.Tree.{Tree}
use Rattle.ax_names_types.specs.declared.Entry.{Entry}
use Rattle.ax_names_types.specs.declared.Entity.TheVariants as entity
use Rattle.ax_names_types.specs.declared.TypeKind.TheVariants.{UnknownName, Redeclared, NoMain}
use Rattle.ax_names_types.specs.declared.TypeFault.{TypeFault}
use Rattle.ax_names_types.specs.Faults.{fault}
use Rattle.ax_names_types.specs.Scopes.{innermost}
use Rattle.ax_names_declared.specs.Structs.{Misdefines}
use Rattle.ax_names_declared.specs.Heads.{MisdeclaresFunction}
use Rattle.ax_names_rules.specs.declared.Signature.{Signature}
use Rattle.ax_names_rules.specs.declared.State.{State}
use Rattle.ax_names_rules.specs.States.{depth}
use Rattle.ax_names_rules.specs.Values.{function_at}
use Rattle.ax_names_rules.specs.Functions.{Signs, IsUndefined, IsHead, with_params}
use Rattle.ax_names_rules.specs.Programs.{definitions_of, BecomesPart, BecomeParts, start, HasMain}
use Rattle.ax_names_rules.specs.StatementFaults.{BreaksGlobals, BreaksAll}

-- 6.7p3, p4, 6.9p5: a head. Its name is new, or its function's, which has one signature and one definition.
pub data BreaksHead (st : State) (defined : Bool) (h : Head) : TypeFault → Type 0 where
  head : {f : TypeFault} → MisdeclaresFunction st.structs defined h f → BreaksHead st defined h f
  variable : (d : Entry) (id : VarId) (u : Ty) → innermost h.name.text st.names ≡ Some d → d.entity ≡ entity.Variable id u → BreaksHead st defined h (fault Redeclared (h.name).span)
  twice : defined ≡ true → (IsUndefined st h.name.text → ⊥) → BreaksHead st defined h (fault Redeclared (h.name).span)
  differs : (g : Signature) (d : Entry) (k : ℕ) → Signs st.structs defined h g → innermost h.name.text st.names ≡ Some d → d.entity ≡ entity.Function k → (slice_get st.heads k ≡ Some g → ⊥) → BreaksHead st defined h (fault Redeclared (h.name).span)

pub data BreaksFunction (defs : List (List ℕ)) (st : State) (h : Head) (items : List Stmt) : TypeFault → Type 0 where
  head : {f : TypeFault} → BreaksHead st true h f → BreaksFunction defs st h items f
  body : {f : TypeFault} (g : Signature) (st2 : State) → IsHead st true h g st2 → BreaksAll defs g.result false (depth st2) (with_params st2 h.params g.params) items f → BreaksFunction defs st h items f

-- a prototype: the file has a definition of its function
pub data BreaksPrototype (defs : List (List ℕ)) (st : State) (h : Head) : TypeFault → Type 0 where
  head : {f : TypeFault} → BreaksHead st false h f → BreaksPrototype defs st h f
  undefined : function_at defs h.name.text ≡ None → BreaksPrototype defs st h (fault UnknownName (h.name).span)

pub data BreaksPart (defs : List (List ℕ)) (st : State) : Part → TypeFault → Type 0 where
  struct : {at : Span} {x : Name} {ms : List Members} {f : TypeFault} → Misdefines st.structs x ms f → BreaksPart defs st (part.Struct at x ms) f
  decl : {d : Decl} {f : TypeFault} → BreaksGlobals d.base st d.items f → BreaksPart defs st (part.Decl d) f
  function : {at : Span} {h : Head} {items : List Stmt} {f : TypeFault} → BreaksFunction defs st h items f → BreaksPart defs st (part.Function at h items) f
  prototype : {at : Span} {h : Head} {f : TypeFault} → BreaksPrototype defs st h f → BreaksPart defs st (part.Prototype at h) f

pub data BreaksParts (defs : List (List ℕ)) : State → List Part → TypeFault → Type 0 where
  this : {st : State} {p : Part} {rest : List Part} {f : TypeFault} → BreaksPart defs st p f → BreaksParts defs st (p ∷ rest) f
  behind : {st st2 : State} {p : Part} {rest : List Part} {f : TypeFault} → BecomesPart defs st p st2 → BreaksParts defs st2 rest f → BreaksParts defs st (p ∷ rest) f

-- the end of the last token
abbrev pub end_of : Tree → Span
end_of tree = record { from = (tree.span).to; to = (tree.span).to }

-- 5.1.2.2.1: the source of this tree
pub data BreaksSource (tree : Tree) : TypeFault → Type 0 where
  within : {f : TypeFault} → BreaksParts (definitions_of tree.parts) start tree.parts f → BreaksSource tree f
  no_main : (st : State) → BecomeParts (definitions_of tree.parts) start tree.parts st → ((j : ℕ) → HasMain (definitions_of tree.parts) st j → ⊥) → BreaksSource tree (fault NoMain (end_of tree))
