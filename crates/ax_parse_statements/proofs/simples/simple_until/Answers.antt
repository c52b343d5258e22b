use Rattle.std.proofs.Common.{◌+◌, Some, None, refl, drop}
use Rattle.std.proofs.lemmas.Result.{err_from_is_err_and}
use Rattle.ax_parse_grammar.specs.Reading.{until}
use Rattle.ax_parse_grammar.specs.ReadStatements.{simple_stmt}
use Rattle.ax_parse_grammar.proofs.Tools.{also_1}
use Rattle.ax_parse_statements.proofs.DeclarationTurns.{fails_err}
use Rattle.ax_parse_statements.proofs.SimpleExits as x
use Rattle.ax_parse_statements.proofs.simples.simple_until.Goals as goal

pub returns-in_err-act-clause-exact : goal.returns-in_err-act-clause-exact
returns-in_err-act-clause-exact c =
    let tokens = c.args.tokens.now in
    let ts = drop c.args.at tokens in
    let us = drop (c.args.at + 1) tokens in
    let p = err_from_is_err_and c.from_residual.result c.from_residual.ensures.1 in
    let d = c.in_err-act.field-0.0 in
    rw (p.1, p.2) (fails_err tokens d (λ n. (simple_stmt n) ts) (λ n. until c.args.what (simple_stmt n) ts) c.in_err-act.ensures.exact (λ n none. x.until_none c.args.what (simple_stmt n) ts none))

pub returns-then-not-is_at-clause-exact : goal.returns-then-not-is_at-clause-exact
returns-then-not-is_at-clause-exact c =
    let tokens = c.args.tokens.now in
    let ts = drop c.args.at tokens in
    let us = drop (c.args.at + 1) tokens in
    also_1 (λ n. (simple_stmt n) ts) (Some (c.in_ok-act.act, (drop c.in_ok-act.next tokens))) (λ n. until c.args.what (simple_stmt n) ts) None c.in_ok-act.ensures.exact (λ n one. x.until_off c.args.what (simple_stmt n) ts c.in_ok-act.act (drop c.in_ok-act.next tokens) one (c.if-not-is_at.ensures.none refl))

pub returns-clause-exact : goal.returns-clause-exact
returns-clause-exact c =
    let tokens = c.args.tokens.now in
    let ts = drop c.args.at tokens in
    let us = drop (c.args.at + 1) tokens in
    also_1 (λ n. (simple_stmt n) ts) (Some (c.in_ok-act.act, (drop c.in_ok-act.next tokens))) (λ n. until c.args.what (simple_stmt n) ts) (Some (c.in_ok-act.act, drop (c.in_ok-act.next + 1) tokens)) c.in_ok-act.ensures.exact (λ n one. x.until_is c.args.what (simple_stmt n) ts c.in_ok-act.act (drop c.in_ok-act.next tokens) (drop (c.in_ok-act.next + 1) tokens) one (c.if-not-is_at.ensures.some refl).1)
