use Rattle.std.proofs.Common.{◌+◌, Some, None, drop}
use Rattle.std.proofs.lemmas.Result.{err_from_is_err_and}
use Rattle.ax_parse_grammar.specs.ReadExpressions.{expr, unary, postfix}
use Rattle.ax_parse_grammar.specs.ReadStatements.{assign_by, chain_by, left_by}
use Rattle.ax_parse_statements.proofs.DeclarationTurns.{fails_err, gives_behind}
use Rattle.ax_parse_statements.proofs.SimpleExits as x
use Rattle.ax_parse_statements.proofs.simples.left.Goals as goal

pub returns-in_err-x-in-None-clause-exact : goal.returns-in_err-x-in-None-clause-exact
returns-in_err-x-in-None-clause-exact c =
    let tokens = c.args.tokens.now in
    let ts = drop c.args.at tokens in
    let us = drop (c.args.at + 1) tokens in
    let p = err_from_is_err_and c.from_residual.result c.from_residual.ensures.1 in
    let d = c.in_err-x-in-None.field-0.0 in
    rw (p.1, p.2) (fails_err tokens d (λ n. postfix n ts) (λ n. left_by (expr n) (unary n) (postfix n) ts) c.in_err-x-in-None.ensures.exact (λ n none. x.left_none (expr n) (unary n) (postfix n) ts c.in-None.ensures.found none))

pub returns-in_ok-x-in-None-clause-exact : goal.returns-in_ok-x-in-None-clause-exact
returns-in_ok-x-in-None-clause-exact c =
    let tokens = c.args.tokens.now in
    let ts = drop c.args.at tokens in
    let us = drop (c.args.at + 1) tokens in
    gives_behind tokens c.chain.result (λ n. postfix n ts) (Some ((c.in_ok-x-in-None.x, c.in_ok-x-in-None.called), (drop c.in_ok-x-in-None.next tokens))) (λ n. chain_by (expr n) ts ((c.in_ok-x-in-None.x, c.in_ok-x-in-None.called), (drop c.in_ok-x-in-None.next tokens))) (λ n. left_by (expr n) (unary n) (postfix n) ts) c.in_ok-x-in-None.ensures.exact (λ n one. x.left_is (expr n) (unary n) (postfix n) ts ((c.in_ok-x-in-None.x, c.in_ok-x-in-None.called), (drop c.in_ok-x-in-None.next tokens)) c.in-None.ensures.found one) c.chain.ensures.exact

pub returns-in_err-x-in-Some-clause-exact : goal.returns-in_err-x-in-Some-clause-exact
returns-in_err-x-in-Some-clause-exact c =
    let tokens = c.args.tokens.now in
    let ts = drop c.args.at tokens in
    let us = drop (c.args.at + 1) tokens in
    let p = err_from_is_err_and c.from_residual-in_err-x-in-Some.result c.from_residual-in_err-x-in-Some.ensures.1 in
    let d = c.in_err-x-in-Some.field-0.0 in
    rw (p.1, p.2) (fails_err tokens d (λ n. unary n ts) (λ n. left_by (expr n) (unary n) (postfix n) ts) c.in_err-x-in-Some.ensures.exact (λ n none. x.prefixed_none (expr n) (unary n) (postfix n) ts c.in-Some.ensures.found none))

pub returns-in_ok-x-in-Some-clause-exact : goal.returns-in_ok-x-in-Some-clause-exact
returns-in_ok-x-in-Some-clause-exact c =
    let tokens = c.args.tokens.now in
    let ts = drop c.args.at tokens in
    let us = drop (c.args.at + 1) tokens in
    gives_behind tokens c.assigned.result (λ n. unary n ts) (Some (c.in_ok-x-in-Some.x, (drop c.in_ok-x-in-Some.next tokens))) (λ n. assign_by (expr n) ts (c.in_ok-x-in-Some.x, (drop c.in_ok-x-in-Some.next tokens)) None) (λ n. left_by (expr n) (unary n) (postfix n) ts) c.in_ok-x-in-Some.ensures.exact (λ n one. x.prefixed_is (expr n) (unary n) (postfix n) ts (c.in_ok-x-in-Some.x, (drop c.in_ok-x-in-Some.next tokens)) c.in-Some.ensures.found one) c.assigned.ensures.exact
