use Rattle.std.proofs.Common.{◌+◌, Some, None, refl, drop}
use Rattle.std.proofs.lemmas.Result.{err_from_is_err_and}
use Rattle.ax_parse_grammar.specs.declared.terminals.Terminal.TheVariants as w
use Rattle.ax_parse_grammar.specs.Reading.{until}
use Rattle.ax_parse_grammar.specs.ReadExpressions.{expr}
use Rattle.ax_parse_grammar.specs.ReadStatements.{test_by}
use Rattle.ax_parse_grammar.proofs.Tools.{also_1}
use Rattle.ax_parse_statements.proofs.DeclarationTurns.{fails_err}
use Rattle.ax_parse_statements.proofs.SimpleExits as x
use Rattle.ax_parse_statements.proofs.headers.test_ended.Goals as goal

pub returns-in_err-found-clause-exact : goal.returns-in_err-found-clause-exact
returns-in_err-found-clause-exact c =
    let tokens = c.args.tokens.now in
    let ts = drop c.args.at tokens in
    let us = drop (c.args.at + 1) tokens in
    let p = err_from_is_err_and c.from_residual.result c.from_residual.ensures.1 in
    let d = c.in_err-found.field-0.0 in
    rw (p.1, p.2) (fails_err tokens d (λ n. (test_by (expr n)) ts) (λ n. until w.Semicolon (test_by (expr n)) ts) c.in_err-found.ensures.exact (λ n none. x.until_none w.Semicolon (test_by (expr n)) ts none))

pub returns-then-not-is_at-clause-exact : goal.returns-then-not-is_at-clause-exact
returns-then-not-is_at-clause-exact c =
    let tokens = c.args.tokens.now in
    let ts = drop c.args.at tokens in
    let us = drop (c.args.at + 1) tokens in
    also_1 (λ n. (test_by (expr n)) ts) (Some (c.in_ok-found.found, (drop c.in_ok-found.next tokens))) (λ n. until w.Semicolon (test_by (expr n)) ts) None c.in_ok-found.ensures.exact (λ n one. x.until_off w.Semicolon (test_by (expr n)) ts c.in_ok-found.found (drop c.in_ok-found.next tokens) one (c.if-not-is_at.ensures.none refl))

pub returns-clause-exact : goal.returns-clause-exact
returns-clause-exact c =
    let tokens = c.args.tokens.now in
    let ts = drop c.args.at tokens in
    let us = drop (c.args.at + 1) tokens in
    also_1 (λ n. (test_by (expr n)) ts) (Some (c.in_ok-found.found, (drop c.in_ok-found.next tokens))) (λ n. until w.Semicolon (test_by (expr n)) ts) (Some (c.in_ok-found.found, drop (c.in_ok-found.next + 1) tokens)) c.in_ok-found.ensures.exact (λ n one. x.until_is w.Semicolon (test_by (expr n)) ts c.in_ok-found.found (drop c.in_ok-found.next tokens) (drop (c.in_ok-found.next + 1) tokens) one (c.if-not-is_at.ensures.some refl).1)
