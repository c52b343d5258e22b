-- What is left to do on the way up from an operand.
use Rattle.std.specs.Prelude.{List, [], ◌∷◌}
use Rattle.ax_prog.specs.declared.Struct.{Struct}
use Rattle.ax_parse_grammar.specs.declared.tree.Expr.{Expr}
use Rattle.ax_parse_grammar.specs.Trees.{span_of}
use Rattle.ax_names_types.specs.declared.Typed.{Typed}
use Rattle.ax_names_types.specs.Faults.{Verdict}
use Rattle.ax_names_types.specs.Scopes.{Env}
use Rattle.ax_names_types.specs.Types.{is_zero}
use Rattle.ax_names_types.specs.Verdicts.{unary, binary, cond, index, member, arrow, verdict_of}
use Rattle.ax_names_values.specs.declared.operands.Operand.{Operand}
use Rattle.ax_names_values.specs.declared.walk.Step.{Step}
use Rattle.ax_names_values.specs.declared.walk.Step.TheVariants as step

-- an operand, judged
abbrev pub operand_of : Env → Expr → Operand
operand_of env a = record { span = span_of a; is_zero = is_zero a; verdict = verdict_of env a }

-- `? :` of three operands
abbrev pub conditional_of : Env → Expr → Expr → Expr → Verdict Typed
conditional_of env c a b = cond (span_of c) (verdict_of env c) (span_of a) (verdict_of env a) (span_of b) (verdict_of env b)

-- what a step makes of its operand
abbrev pub after : List Struct → Step → Verdict Typed → Verdict Typed
after structs (step.Unary op b part) v = unary op b part v
after structs (step.Binary op at zero left b) v = binary op at zero left v b.is_zero b.span b.verdict
after structs (step.Index part b) v = index part v b.span b.verdict
after structs (step.Member x part) v = member structs x part v
after structs (step.Arrow x part) v = arrow structs x part v

-- what steps make of an operand, the last of them first
abbrev pub finished : List Struct → List Step → Verdict Typed → Verdict Typed
finished structs [] v = v
finished structs (s ∷ steps) v = after structs s (finished structs steps v)
