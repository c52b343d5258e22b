-- What the code answers, in the words of the parsers on lists; private contracts and those of readers cite this.
use Rattle.std.specs.Prelude.{◌≡◌, ℕ, List, Option, Some, None, Result, Ok, Err, drop}
use Rattle.ax_prog.specs.declared.tokens.Token.{Token}
use Rattle.ax_prog.specs.declared.tokens.Kind.{Kind}
use Rattle.ax_parse_grammar.specs.declared.starts.Start.{Start}
use Rattle.ax_parse_grammar.specs.Starts.{start_of}
use Rattle.ax_parse_grammar.specs.declared.terminals.Terminal.TheVariants as w
use Rattle.ax_parse_grammar.specs.declared.tree.Expr.{Expr}
use Rattle.ax_parse_grammar.specs.declared.tree.Decl.{Decl}
use Rattle.ax_parse_grammar.specs.declared.tree.Simple.{Simple}
use Rattle.ax_parse_grammar.specs.declared.tree.Opening.{Opening}
use Rattle.ax_prog.specs.declared.Bin.{Bin}
use Rattle.ax_parse_grammar.specs.declared.tree.Simple.TheVariants as act
use Rattle.ax_parse_grammar.specs.declared.tree.Opening.TheVariants as opening
use Rattle.ax_parse_grammar.specs.Reading.{Parser, ◌>>=◌, choose, extent_to, after, until}
use Rattle.ax_parse_grammar.specs.ReadStatements.{test_by}
use Rattle.ax_parse_expressions.specs.declared.faults.ReadFault.{ReadFault}
use Rattle.ax_parse_expressions.specs.declared.faults.ReadFault.TheVariants.{Memory, Syntax}

-- The place is the one behind what a parser on lists passes; where the syntax is at fault, it passes nothing.
abbrev pub Ends : List Token → Result ℕ ReadFault → Option (List Token) → Type 0
Ends tokens (Ok end) o = o ≡ Some (drop end tokens)
Ends tokens (Err (Syntax at)) o = o ≡ None
Ends tokens (Err Memory) o = Unit {0}

-- what begins with a token of this kind
abbrev pub begins : Kind → Option Start
begins kind = Some (start_of kind)

-- `while`, a condition and `;`
abbrev pub do_end_by : Parser Expr → Parser Expr
do_end_by whole ts = choose (after w.While ts) None (λ us. until w.Semicolon (test_by whole) us)

-- the right side of an assignment to x in the tokens ts
abbrev pub set_by : Parser Expr → List Token → Expr → Parser Simple
set_by whole ts x us = whole us >>= λ y. Some (act.Assign (extent_to ts y.1) x y.0, y.1)

-- the right side of a compound assignment
abbrev pub change_by : Parser Expr → List Token → Expr → Bin → Parser Simple
change_by whole ts x op us = whole us >>= λ y. Some (act.Change (extent_to ts y.1) x op y.0, y.1)

-- how a `for` begins with a declaration
abbrev pub decl_opening_by : Parser Decl → Parser Opening
decl_opening_by decl ts = decl ts >>= λ d. Some (opening.Decl d.0, d.1)

-- how a `for` begins with a simple statement
abbrev pub simple_opening_by : Parser Simple → Parser Opening
simple_opening_by simple ts = until w.Semicolon simple ts >>= λ x. Some (opening.Simple x.0, x.1)
