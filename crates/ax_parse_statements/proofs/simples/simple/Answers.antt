use Rattle.std.proofs.Common.{◌+◌, Some, drop}
use Rattle.std.proofs.lemmas.Result.{err_from_is_err_and}
use Rattle.ax_parse_grammar.specs.declared.tree.Simple.TheVariants as act
use Rattle.ax_parse_grammar.specs.ReadExpressions.{expr, unary, postfix}
use Rattle.ax_parse_grammar.specs.ReadStatements.{left_by, simple_stmt}
use Rattle.ax_parse_grammar.proofs.Tools.{also_1}
use Rattle.ax_parse_statements.proofs.DeclarationTurns.{fails_err, gives_same}
use Rattle.ax_parse_statements.proofs.SimpleExits as x
use Rattle.ax_parse_statements.proofs.simples.simple.Goals as goal

pub returns-in-None-clause-exact : goal.returns-in-None-clause-exact
returns-in-None-clause-exact c =
    let tokens = c.args.tokens.now in
    let ts = drop c.args.at tokens in
    let us = drop (c.args.at + 1) tokens in
    gives_same tokens c.left.result (λ n. left_by (expr n) (unary n) (postfix n) ts) (λ n. simple_stmt n ts) c.left.ensures.exact (λ n. x.simple_off (expr n) (unary n) (postfix n) ts c.in-None.ensures.found)

pub returns-in_err-x-in-Some-clause-exact : goal.returns-in_err-x-in-Some-clause-exact
returns-in_err-x-in-Some-clause-exact c =
    let tokens = c.args.tokens.now in
    let ts = drop c.args.at tokens in
    let us = drop (c.args.at + 1) tokens in
    let p = err_from_is_err_and c.from_residual.result c.from_residual.ensures.1 in
    let d = c.in_err-x-in-Some.field-0.0 in
    rw (p.1, p.2) (fails_err tokens d (λ n. unary n us) (λ n. simple_stmt n ts) c.in_err-x-in-Some.ensures.exact (λ n none. x.step_none (expr n) (unary n) (postfix n) ts us c.in-Some.up c.in-Some.ensures.found none))

pub returns-in_ok-x-in-Some-clause-exact : goal.returns-in_ok-x-in-Some-clause-exact
returns-in_ok-x-in-Some-clause-exact c =
    let tokens = c.args.tokens.now in
    let ts = drop c.args.at tokens in
    let us = drop (c.args.at + 1) tokens in
    also_1 (λ n. unary n us) (Some (c.in_ok-x-in-Some.x, (drop c.in_ok-x-in-Some.end tokens))) (λ n. simple_stmt n ts) (Some (act.Step c.extent.result c.in_ok-x-in-Some.x c.in-Some.up, (drop c.in_ok-x-in-Some.end tokens))) c.in_ok-x-in-Some.ensures.exact (λ n one. x.step_is (expr n) (unary n) (postfix n) ts us (drop c.in_ok-x-in-Some.end tokens) c.in-Some.up c.in_ok-x-in-Some.x c.extent.result c.in-Some.ensures.found c.extent.ensures one)
