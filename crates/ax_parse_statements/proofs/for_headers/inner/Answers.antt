use Rattle.std.proofs.Common.{◌+◌, Some, drop, subst}
use Rattle.std.proofs.lemmas.Result.{err_from_is_err_and}
use Rattle.ax_parse_grammar.specs.ReadExpressions.{expr}
use Rattle.ax_parse_grammar.specs.ReadDeclarations.{decl}
use Rattle.ax_parse_grammar.specs.ReadStatements.{simple_stmt, opening_by, for_head_by}
use Rattle.ax_parse_statements.proofs.DeclarationTurns.{fails_err, gives_behind}
use Rattle.ax_parse_statements.specs.ForsFound.{opened_by}
use Rattle.ax_parse_expressions.specs.Answers.{Gives}
use Rattle.ax_parse_statements.proofs.ForExits as x
use Rattle.ax_parse_statements.proofs.for_headers.inner.Goals as goal

pub returns-in_err-opening-clause-exact : goal.returns-in_err-opening-clause-exact
returns-in_err-opening-clause-exact c =
    let tokens = c.args.tokens.now in
    let ts = drop c.args.at tokens in
    let us = drop (c.args.at + 1) tokens in
    let p = err_from_is_err_and c.from_residual.result c.from_residual.ensures.1 in
    let d = c.in_err-opening.field-0.0 in
    rw (p.1, p.2) (fails_err tokens d (λ n. opening_by (decl n) (simple_stmt n) ts) (λ n. for_head_by (expr n) (decl n) (simple_stmt n) ts) c.in_err-opening.ensures.exact (λ n none. x.inner_none (expr n) (decl n) (simple_stmt n) ts none))

pub returns-clause-exact : goal.returns-clause-exact
returns-clause-exact c =
    let tokens = c.args.tokens.now in
    let ts = drop c.args.at tokens in
    let us = drop (c.args.at + 1) tokens in
    let rest = drop c.in_ok-opening.next tokens in
    gives_behind tokens c.opened.result (λ n. opening_by (decl n) (simple_stmt n) ts) (Some (c.in_ok-opening.opening, rest)) (λ n. opened_by (expr n) (simple_stmt n) c.in_ok-opening.opening rest) (λ n. for_head_by (expr n) (decl n) (simple_stmt n) ts) c.in_ok-opening.ensures.exact (λ n one. x.inner_is (expr n) (decl n) (simple_stmt n) ts c.in_ok-opening.opening rest one) (subst (λ o. Gives tokens c.opened.result (λ n. opened_by (expr n) (simple_stmt n) o rest)) c.in_ok-begun.ensures c.opened.ensures.exact)
