-- What the code answers, in the words of the parsers on lists; private contracts alone cite this.
use Rattle.std.specs.Prelude.{ℕ, List, [], Option, Some, None, Result, Ok, Err}
use Rattle.ax_prog.specs.declared.tokens.Token.{Token}
use Rattle.ax_parse_grammar.specs.declared.tree.Part.{Part}
use Rattle.ax_parse_grammar.specs.declared.tree.Part.TheVariants as part
use Rattle.ax_parse_grammar.specs.Reading.{Parser, ◌>>=◌, Settles}
use Rattle.ax_parse_grammar.specs.ReadDeclarations.{decl}
use Rattle.ax_parse_grammar.specs.ReadSources.{head, body_by}
use Rattle.ax_parse_expressions.specs.declared.faults.ReadFault.{ReadFault}
use Rattle.ax_parse_expressions.specs.declared.faults.ReadFault.TheVariants.{Memory, Syntax}

-- the head of a function, and its body or `;`
abbrev pub function : ℕ → Parser Part
function n ts = head n ts >>= body_by n ts

abbrev pub declaration : ℕ → Parser Part
declaration n ts = decl n ts >>= λ d. Some (part.Decl d.0, d.1)

-- What is read to the end is what the parser on lists settles on; where the syntax is at fault, it settles on nothing.
abbrev pub GivesAll : {A : Type 0} → Result A ReadFault → (ℕ → Option (A × List Token)) → Type 0
GivesAll (Ok x) f = Settles f (Some (x, []))
GivesAll (Err (Syntax at)) f = Settles f None
GivesAll (Err Memory) f = Unit {0}
