use Rattle.std.proofs.Common.{◌+◌, Some, drop}
use Rattle.std.proofs.lemmas.Result.{err_from_is_err_and}
use Rattle.ax_parse_grammar.specs.declared.tree.Opening.TheVariants as opening
use Rattle.ax_parse_grammar.specs.ReadExpressions.{expr}
use Rattle.ax_parse_grammar.specs.ReadDeclarations.{decl}
use Rattle.ax_parse_grammar.specs.ReadStatements.{simple_stmt}
use Rattle.ax_parse_grammar.proofs.Tools.{also_1}
use Rattle.ax_parse_statements.specs.SimplesFound.{decl_opening_by}
use Rattle.ax_parse_statements.proofs.DeclarationTurns.{fails_err}
use Rattle.ax_parse_statements.proofs.SimpleExits as x
use Rattle.ax_parse_statements.proofs.headers.decl_opening.Goals as goal

pub returns-in_err-found-clause-exact : goal.returns-in_err-found-clause-exact
returns-in_err-found-clause-exact c =
    let tokens = c.args.tokens.now in
    let ts = drop c.args.at tokens in
    let us = drop (c.args.at + 1) tokens in
    let p = err_from_is_err_and c.from_residual.result c.from_residual.ensures.1 in
    let d = c.in_err-found.field-0.0 in
    rw (p.1, p.2) (fails_err tokens d (λ n. decl n ts) (λ n. decl_opening_by (decl n) ts) c.in_err-found.ensures.exact (λ n none. x.decl_opening_none (expr n) (decl n) (simple_stmt n) ts none))

pub returns-clause-exact : goal.returns-clause-exact
returns-clause-exact c =
    let tokens = c.args.tokens.now in
    let ts = drop c.args.at tokens in
    let us = drop (c.args.at + 1) tokens in
    also_1 (λ n. decl n ts) (Some (c.in_ok-found.found, drop c.in_ok-found.end tokens)) (λ n. decl_opening_by (decl n) ts) (Some (opening.Decl c.in_ok-found.found, drop c.in_ok-found.end tokens)) c.in_ok-found.ensures.exact (λ n one. x.decl_opening_is (expr n) (decl n) (simple_stmt n) ts c.in_ok-found.found (drop c.in_ok-found.end tokens) one)
