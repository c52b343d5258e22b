-- What the code answers, in the words of the parsers on lists; private contracts and those of readers cite this.
use Rattle.std.specs.Prelude.{ℕ, List, Option, Some, None, Result, Ok, Err, drop}
use Rattle.ax_prog.specs.declared.tokens.Token.{Token}
use Rattle.ax_parse_grammar.specs.declared.terminals.Terminal.TheVariants as w
use Rattle.ax_parse_grammar.specs.declared.tree.Expr.{Expr}
use Rattle.ax_parse_grammar.specs.declared.tree.Expr.TheVariants as e
use Rattle.ax_parse_grammar.specs.Reading.{Parser, ◌>>=◌, extent_to, until, Settles}
use Rattle.ax_parse_expressions.specs.declared.faults.ReadFault.{ReadFault}
use Rattle.ax_parse_expressions.specs.declared.faults.ReadFault.TheVariants.{Memory, Syntax}

-- What is read and the place after it are what the parser on lists settles on; where the syntax is at fault, it settles on nothing.
abbrev pub Gives : {A : Type 0} → List Token → Result (A × ℕ) ReadFault → (ℕ → Option (A × List Token)) → Type 0
Gives tokens (Ok r) f = Settles f (Some (r.0, drop r.1 tokens))
Gives tokens (Err (Syntax at)) f = Settles f None
Gives tokens (Err Memory) f = Unit {0}

-- the branches of `? :`, behind its condition c
abbrev pub branches_by : Parser Expr → List Token → Expr → Parser Expr
branches_by whole ts c us = until w.Colon whole us >>= λ a. whole a.1 >>= λ b. Some (e.Cond (extent_to ts b.1) c a.0 b.0, b.1)
