-- What the code answers, in the words of the parsers on lists; private contracts and those of readers cite this.
use Rattle.std.specs.Prelude.{ℕ, List, [], ◌∷◌, Option, Some, None}
use Rattle.ax_prog.specs.declared.tokens.Token.{Token}
use Rattle.ax_parse_grammar.specs.declared.terminals.Terminal.TheVariants as w
use Rattle.ax_parse_grammar.specs.declared.tree.Expr.{Expr}
use Rattle.ax_parse_grammar.specs.declared.tree.Decl.{Decl}
use Rattle.ax_parse_grammar.specs.declared.tree.Simple.{Simple}
use Rattle.ax_parse_grammar.specs.declared.tree.Opening.{Opening}
use Rattle.ax_parse_grammar.specs.declared.tree.Stmt.{Stmt}
use Rattle.ax_parse_grammar.specs.declared.tree.Stmt.TheVariants as s
use Rattle.ax_parse_grammar.specs.Reading.{Parser, ◌>>=◌, choose, extent_to, after, past, next, until, maybe_until}
use Rattle.ax_parse_grammar.specs.ReadStatements.{for_head_by, format_of}

-- how a `for` begins, its condition and its step
abbrev pub Header : Type 0
Header = Opening × (Option Expr × Option Simple)

-- the step and `)`, behind the opening and the condition
abbrev pub tested_by : Parser Simple → Opening → Option Expr → Parser Header
tested_by simple opening test us = maybe_until w.CloseRound simple us >>= λ x. Some ((opening, (test, x.0)), x.1)

-- the condition, `;`, the step and `)`, behind the opening
abbrev pub opened_by : Parser Expr → Parser Simple → Opening → Parser Header
opened_by whole simple opening us = maybe_until w.Semicolon whole us >>= λ c. tested_by simple opening c.0 c.1

-- all of it with its parentheses
abbrev pub header_by : Parser Expr → Parser Decl → Parser Simple → Parser Header
header_by whole decl simple us = choose (after w.OpenRound us) None (λ vs. for_head_by whole decl simple vs)

-- `(`, a format and a comma
abbrev pub format_by : Parser ℕ
format_by us = choose (after w.OpenRound us) None (λ vs. until w.Comma (next format_of) vs)

-- the value behind the format, `)` and `;`, of a `printf` of the tokens ts
abbrev pub printed_by : Parser Expr → List Token → ℕ → Parser Stmt
printed_by whole ts format us = whole us >>= λ x. choose (past (w.CloseRound ∷ w.Semicolon ∷ []) x.1) None (λ rest. Some (s.Print (extent_to ts rest) format x.0, rest))
