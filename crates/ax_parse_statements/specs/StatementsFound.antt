-- What the code answers, in the words of the parsers on lists; private contracts and those of readers cite this.
use Rattle.std.specs.Prelude.{List, Some}
use Rattle.ax_prog.specs.declared.tokens.Token.{Token}
use Rattle.ax_parse_grammar.specs.declared.tree.Decl.{Decl}
use Rattle.ax_parse_grammar.specs.declared.tree.Stmt.{Stmt}
use Rattle.ax_parse_grammar.specs.declared.tree.Stmt.TheVariants as s
use Rattle.ax_parse_grammar.specs.Reading.{Parser, ◌>>=◌, extent_to}
use Rattle.ax_parse_statements.specs.ForsFound.{Header}

-- a declaration as an item of a block
abbrev pub decl_item_by : Parser Decl → Parser Stmt
decl_item_by decl ts = decl ts >>= λ d. Some (s.Decl d.0, d.1)

-- the body of a `for` of the tokens ts
abbrev pub looped_by : Parser Stmt → List Token → Header → Parser Stmt
looped_by part ts header us = part us >>= λ x. Some (s.For (extent_to ts x.1) header.0 (header.1).0 (header.1).1 x.0, x.1)
