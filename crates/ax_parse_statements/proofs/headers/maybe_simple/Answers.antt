use Rattle.std.proofs.Common.{◌+◌, Some, None, refl, drop}
use Rattle.std.proofs.lemmas.Result.{err_from_is_err_and}
use Rattle.ax_parse_grammar.specs.Reading.{until, maybe_until}
use Rattle.ax_parse_grammar.specs.ReadStatements.{simple_stmt}
use Rattle.ax_parse_grammar.proofs.Tools.{also_1}
use Rattle.ax_parse_statements.proofs.DeclarationTurns.{fails_err, settled}
use Rattle.ax_parse_statements.proofs.SimpleExits as x
use Rattle.ax_parse_statements.proofs.headers.maybe_simple.Goals as goal

pub returns-then-is_at-clause-exact : goal.returns-then-is_at-clause-exact
returns-then-is_at-clause-exact c =
    let tokens = c.args.tokens.now in
    let ts = drop c.args.at tokens in
    let us = drop (c.args.at + 1) tokens in
    settled (λ n. maybe_until c.args.what (simple_stmt n) ts) (Some (None, us)) (λ n. x.maybe_nothing c.args.what (simple_stmt n) ts us (c.if-is_at.ensures.some refl).1)

pub returns-in_err-found-clause-exact : goal.returns-in_err-found-clause-exact
returns-in_err-found-clause-exact c =
    let tokens = c.args.tokens.now in
    let ts = drop c.args.at tokens in
    let us = drop (c.args.at + 1) tokens in
    let p = err_from_is_err_and c.from_residual.result c.from_residual.ensures.1 in
    let d = c.in_err-found.field-0.0 in
    rw (p.1, p.2) (fails_err tokens d (λ n. until c.args.what (simple_stmt n) ts) (λ n. maybe_until c.args.what (simple_stmt n) ts) c.in_err-found.ensures.exact (λ n none. x.maybe_none c.args.what (simple_stmt n) ts (c.if-is_at.ensures.none refl) none))

pub returns-clause-exact : goal.returns-clause-exact
returns-clause-exact c =
    let tokens = c.args.tokens.now in
    let ts = drop c.args.at tokens in
    let us = drop (c.args.at + 1) tokens in
    also_1 (λ n. until c.args.what (simple_stmt n) ts) (Some (c.in_ok-found.found, drop c.in_ok-found.end tokens)) (λ n. maybe_until c.args.what (simple_stmt n) ts) (Some (Some c.in_ok-found.found, drop c.in_ok-found.end tokens)) c.in_ok-found.ensures.exact (λ n one. x.maybe_is c.args.what (simple_stmt n) ts c.in_ok-found.found (drop c.in_ok-found.end tokens) (c.if-is_at.ensures.none refl) one)
