use Rattle.std.proofs.Common.{◌+◌, Some, drop, subst}
use Rattle.std.proofs.lemmas.Result.{err_from_is_err_and}
use Rattle.ax_parse_grammar.specs.declared.terminals.Terminal.TheVariants as w
use Rattle.ax_parse_grammar.specs.Reading.{maybe_until}
use Rattle.ax_parse_grammar.specs.ReadExpressions.{expr}
use Rattle.ax_parse_grammar.specs.ReadDeclarations.{decl}
use Rattle.ax_parse_grammar.specs.ReadStatements.{simple_stmt}
use Rattle.ax_parse_statements.proofs.DeclarationTurns.{fails_err, gives_behind}
use Rattle.ax_parse_statements.specs.ForsFound.{opened_by, tested_by}
use Rattle.ax_parse_expressions.specs.Answers.{Gives}
use Rattle.ax_parse_statements.proofs.ForExits as x
use Rattle.ax_parse_statements.proofs.for_headers.opened.Goals as goal

pub returns-in_err-test-clause-exact : goal.returns-in_err-test-clause-exact
returns-in_err-test-clause-exact c =
    let tokens = c.args.tokens.now in
    let ts = drop c.args.at tokens in
    let us = drop (c.args.at + 1) tokens in
    let p = err_from_is_err_and c.from_residual.result c.from_residual.ensures.1 in
    let d = c.in_err-test.field-0.0 in
    rw (p.1, p.2) (fails_err tokens d (λ n. maybe_until w.Semicolon (expr n) ts) (λ n. opened_by (expr n) (simple_stmt n) c.args.opening ts) c.in_err-test.ensures.exact (λ n none. x.opened_none (expr n) (decl n) (simple_stmt n) ts c.args.opening none))

pub returns-clause-exact : goal.returns-clause-exact
returns-clause-exact c =
    let tokens = c.args.tokens.now in
    let ts = drop c.args.at tokens in
    let us = drop (c.args.at + 1) tokens in
    let rest = drop c.in_ok-test.next tokens in
    gives_behind tokens c.tested.result (λ n. maybe_until w.Semicolon (expr n) ts) (Some (c.in_ok-test.test, rest)) (λ n. tested_by (simple_stmt n) c.args.opening c.in_ok-test.test rest) (λ n. opened_by (expr n) (simple_stmt n) c.args.opening ts) c.in_ok-test.ensures.exact (λ n one. x.opened_is (expr n) (decl n) (simple_stmt n) ts c.args.opening c.in_ok-test.test rest one) (subst (λ o. Gives tokens c.tested.result (λ n. tested_by (simple_stmt n) o c.in_ok-test.test rest)) c.into_inner.ensures (subst (λ o. Gives tokens c.tested.result (λ n. tested_by (simple_stmt n) o.0 o.1 rest)) c.in_ok-begun.ensures c.tested.ensures.exact))
