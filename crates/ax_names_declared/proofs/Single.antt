-- One type, one struct, one signature at most.
use Rattle.std.proofs.Common.{◌≡◌, ℕ, Bool, List}
use Rattle.ax_prog.specs.declared.Span.{Span}
use Rattle.ax_prog.specs.declared.Ty.{Ty}
use Rattle.ax_prog.specs.declared.Struct.{Struct}
use Rattle.ax_parse_grammar.specs.declared.tree.Base.{Base}
use Rattle.ax_parse_grammar.specs.declared.tree.Head.{Head}
use Rattle.ax_parse_grammar.specs.declared.tree.Members.{Members}
use Rattle.ax_parse_grammar.specs.declared.tree.Name.{Name}
use Rattle.ax_parse_grammar.specs.declared.tree.Size.{Size}
use Rattle.ax_names_declared.specs.declared.heads.Signature.{Signature}
use Rattle.ax_names_declared.specs.Breaks.{DeclaresObject}
use Rattle.ax_names_declared.specs.Cells.{measured}
use Rattle.ax_names_declared.specs.Structs.{Defines}
use Rattle.ax_names_declared.specs.Heads.{DeclaresFunction}
use Rattle.ax_names_declared.specs.Verdicts.{object}
use Rattle.ax_names_declared.specs.Members.{definition}
use Rattle.ax_names_declared.specs.Signatures.{signature}
use Rattle.ax_names_declared.proofs.Exactness.{one_from}
use Rattle.ax_names_declared.proofs.Variables.{declares_object}
use Rattle.ax_names_declared.proofs.Definitions.{defines_is}
use Rattle.ax_names_declared.proofs.Functions.{declares_function}

-- the verdict on a variable gives the same type wherever it stands
nowhere : Span
nowhere = record { from = 0; to = 0 }

pub one_variable : (structs : List Struct) (base : Base) (stars : ℕ) (sizes : List Size) (u v : Ty) → DeclaresObject structs base stars sizes u → DeclaresObject structs base stars sizes v → u ≡ v
one_variable structs base stars sizes u v d e = one_from (object structs (measured structs) base stars sizes nowhere) u v (declares_object structs base stars sizes nowhere u d) (declares_object structs base stars sizes nowhere v e)

pub one_definition : (structs : List Struct) (x : Name) (list : List Members) (s t : Struct) → Defines structs x list s → Defines structs x list t → s ≡ t
one_definition structs x list s t d e = one_from (definition structs x list) s t (defines_is structs x list s d) (defines_is structs x list t e)

pub one_function : (structs : List Struct) (defined : Bool) (h : Head) (s t : Signature) → DeclaresFunction structs defined h s → DeclaresFunction structs defined h t → s ≡ t
one_function structs defined h s t d e = one_from (signature structs defined h) s t (declares_function structs defined h s d) (declares_function structs defined h t e)
