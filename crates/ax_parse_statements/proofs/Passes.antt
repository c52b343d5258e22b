-- Answers that are passed on.
use Rattle.std.proofs.Common.{◌≡◌, ℕ, List, drop, Option, Some, None, Result, Ok, Err}
use Rattle.ax_prog.specs.declared.tokens.Token.{Token}
use Rattle.ax_parse_grammar.specs.Reading.{Settles}
use Rattle.ax_parse_grammar.proofs.Tools.{also_3}
use Rattle.ax_parse_expressions.specs.declared.faults.ReadFault.{ReadFault}
use Rattle.ax_parse_expressions.specs.declared.faults.ReadFault.TheVariants.{Memory, Syntax}
use Rattle.ax_parse_expressions.specs.Answers.{Gives}
use Rattle.ax_parse_statements.specs.SimplesFound.{Ends}
use Rattle.ax_parse_statements.proofs.DeclarationTurns.{gives_err}

-- any answer
pub handed : {A : Type 0} (tokens : List Token) (r : Result (A × ℕ) ReadFault) (f g : ℕ → Option (A × List Token)) → Gives tokens r f → ((o : Option (A × List Token)) → Settles f o → Settles g o) → Gives tokens r g
handed tokens (Ok x) f g h go = go (Some (x.0, drop x.1 tokens)) h
handed tokens (Err Memory) f g h go = tt
handed tokens (Err (Syntax at)) f g h go = go None h

-- a fault at terminals
pub ends_err : {B : Type 0} (tokens : List Token) (d : ReadFault) (p : Option (List Token)) (g : ℕ → Option (B × List Token)) → Ends tokens (Err d) p → (p ≡ None → Settles g None) → Gives {A = B} tokens (Err d) g
ends_err tokens Memory p g h go = tt
ends_err tokens (Syntax at) p g h go = go h

-- a fault behind two readings
pub fails_behind_two : {A B C D : Type 0} (tokens : List Token) (d : ReadFault) (e : ℕ → Option C) (o : Option C) (i : ℕ → Option D) (q : Option D) (f : ℕ → Option (A × List Token)) (g : ℕ → Option (B × List Token)) → Settles e o → Settles i q → Gives {A = A} tokens (Err d) f → ((n : ℕ) → e n ≡ o → i n ≡ q → f n ≡ None → g n ≡ None) → Gives {A = B} tokens (Err d) g
fails_behind_two tokens d e o i q f g s t h go = gives_err tokens d f g h (λ none. also_3 e o i q f None g None s t none go)
