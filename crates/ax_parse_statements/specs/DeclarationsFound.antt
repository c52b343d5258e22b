-- What the code answers, in the words of the parsers on lists; private contracts and those of readers cite this.
use Rattle.std.specs.Prelude.{◌≡◌, ℕ, Bool, false, if◌then◌else◌, is_none, List, Option, Some, None, Result, Ok, Err, drop}
use Rattle.ax_prog.specs.declared.tokens.Token.{Token}
use Rattle.ax_parse_grammar.specs.declared.tree.Declared.{Declared}
use Rattle.ax_parse_grammar.specs.declared.tree.Declarator.{Declarator}
use Rattle.ax_parse_grammar.specs.declared.terminals.Terminal.TheVariants as w
use Rattle.ax_parse_grammar.specs.declared.tree.Expr.{Expr}
use Rattle.ax_parse_grammar.specs.declared.tree.Signed.{Signed}
use Rattle.ax_parse_grammar.specs.declared.tree.Initialiser.TheVariants as init
use Rattle.ax_parse_grammar.specs.Reading.{Parser, choose, extent_to, after, separated}
use Rattle.ax_parse_grammar.specs.ReadDeclarations.{declared, declarator, is_sized, declared_of, value_by, list_by}
use Rattle.ax_parse_expressions.specs.declared.faults.ReadFault.{ReadFault}
use Rattle.ax_parse_expressions.specs.declared.faults.ReadFault.TheVariants.{Memory, Syntax}

-- What is read and the place after it are what a parser on lists finds; where the syntax is at fault, it finds nothing.
abbrev pub Finds : {A : Type 0} → List Token → Result (A × ℕ) ReadFault → Option (A × List Token) → Type 0
Finds tokens (Ok r) o = o ≡ Some (r.0, drop r.1 tokens)
Finds tokens (Err (Syntax at)) o = o ≡ None
Finds tokens (Err Memory) o = Unit {0}

-- declared names with commas between them
abbrev pub declared_names : ℕ → Parser (List Declared)
declared_names n ts = separated declared n ts

-- members with commas between them
abbrev pub declarators : ℕ → Parser (List Declarator)
declarators n ts = separated (declarator false) n ts

-- whether another number of a brace list follows, behind a number
abbrev pub another : List Token → Bool
another ts = choose (after w.Comma ts) false (λ us. is_none (after w.CloseCurly us))

-- the tokens after the end of a brace list, behind its last number
abbrev pub list_end : List Token → Option (List Token)
list_end ts = choose (after w.Comma ts) (after w.CloseCurly ts) (λ us. after w.CloseCurly us)

-- a declarator of the tokens ts without initialiser, before us
abbrev pub plain_by : List Token → Declarator → Parser Declared
plain_by ts d us = if is_sized d.sizes then Some (declared_of (extent_to ts us) d init.Nothing, us) else None

-- what stands behind the `=` of a declarator of the tokens ts
abbrev pub initialised_by : Parser Expr → Parser (List Signed) → List Token → Declarator → Parser Declared
initialised_by whole numbers ts d us = choose (after w.OpenCurly us) (if is_sized d.sizes then value_by whole ts d us else None) (λ vs. list_by numbers ts d us vs)
