use Rattle.std.proofs.Common.{◌≡◌, ℕ, Some, drop}
use Rattle.ax_parse_grammar.specs.ReadSources.{head, body_by}
use Rattle.ax_parse_statements.proofs.DeclarationTurns.{gives_behind}
use Rattle.ax_parse.specs.Found.{function}
use Rattle.ax_parse.proofs.Turns.{function_is}
use Rattle.ax_parse.proofs.parts.function.Goals as goal

pub returns-clause-exact : goal.returns-clause-exact
returns-clause-exact c =
    let tokens = c.args.tokens.now in
    let ts = drop c.args.at tokens in
    let us = drop c.in_ok-found.next tokens in
    let h = c.in_ok-found.found in
    gives_behind tokens c.body.result (λ n. head n ts) (Some (h, us)) (λ n. body_by n ts (h, us)) (λ n. function n ts) c.in_ok-found.ensures.exact (λ n one. function_is n ts us h one) c.body.ensures.exact
