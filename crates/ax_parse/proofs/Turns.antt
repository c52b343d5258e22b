-- What the exits of the readers answer.
use Rattle.std.proofs.Common.{◌≡◌, ℕ, Bool, true, false, List, [], ◌∷◌, Option, Some, None, Err, refl, sym, subst, ap, ◌∙◌}
use Rattle.ax_prog.specs.declared.tokens.Token.{Token}
use Rattle.ax_parse_grammar.specs.declared.terminals.Terminal.TheVariants as w
use Rattle.ax_parse_grammar.specs.declared.tree.Base.{Base}
use Rattle.ax_parse_grammar.specs.declared.tree.Head.{Head}
use Rattle.ax_parse_grammar.specs.Reading.{◌>>=◌, choose, after, Settles}
use Rattle.ax_parse_expressions.specs.declared.faults.ReadFault.{ReadFault}
use Rattle.ax_parse_expressions.specs.declared.faults.ReadFault.TheVariants.{Memory, Syntax}
use Rattle.ax_parse_expressions.specs.Answers.{Gives}
use Rattle.ax_parse_grammar.specs.ReadStatements.{items}
use Rattle.ax_parse_grammar.specs.ReadSources.{head, body_by}
use Rattle.ax_parse.specs.Found.{function, GivesAll}

pub all_err : {A B : Type 0} (tokens : List Token) (d : ReadFault) (f : ℕ → Option (A × List Token)) (g : ℕ → Option (B × List Token)) → Gives {A = A} tokens (Err d) f → (Settles f None → Settles g None) → GivesAll {A = B} (Err d) g
all_err tokens Memory f g h go = tt
all_err tokens (Syntax at) f g h go = go h

pub body_none : (n : ℕ) (ts us vs : List Token) (h : Head) → after w.Semicolon us ≡ None → after w.OpenCurly us ≡ Some vs → items n vs ≡ None → body_by n ts (h, us) ≡ None
body_none n ts us vs h one two none = rw one (rw two (rw none refl))

pub function_is : (n : ℕ) (ts us : List Token) (h : Head) → head n ts ≡ Some (h, us) → function n ts ≡ body_by n ts (h, us)
function_is n ts us h one = rw one refl
